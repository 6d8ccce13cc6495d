-- A packet's 64 bytes as eight words: the definitions of `aql_packet`, passed on.
pub use Rattle.aql_packet.specs.Words.{words_of, bytes_of}
