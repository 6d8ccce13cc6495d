-- What private clauses speak of: the rules behind the bytes' own, and rights that are looked at one by one.
pub mod FieldRules
pub mod RightsPassing
pub mod Ascending
