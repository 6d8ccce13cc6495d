-- The types of the code, by their names (own).
pub use Rattle.hsail_reader.specs.declared.fault.ReadCause.{ReadCause}
pub use Rattle.hsail_reader.specs.declared.fault.Flaw.{Flaw}
pub use Rattle.hsail_reader.specs.declared.fault.ReadError.{ReadError}
pub use Rattle.hsail_reader.specs.declared.fault.ReadFault.{ReadFault}
pub use Rattle.hsail_reader.specs.declared.fault.PlacedFlaw.{PlacedFlaw}
pub use Rattle.hsail_reader.specs.declared.fault.Stop.{Stop}
pub use Rattle.hsail_reader.specs.declared.module.Address.{Address}
pub use Rattle.hsail_reader.specs.declared.module.Argument.{Argument}
pub use Rattle.hsail_reader.specs.declared.module.Item.{Item}
pub use Rattle.hsail_reader.specs.declared.module.Kernel.{Kernel}
pub use Rattle.hsail_reader.specs.declared.module.Module.{Module}
pub use Rattle.hsail_reader.specs.declared.module.Operand.{Operand}
pub use Rattle.hsail_reader.specs.declared.module.Operation.{Operation}
pub use Rattle.hsail_reader.specs.declared.module.SegmentPlace.{SegmentPlace}
pub use Rattle.hsail_reader.specs.declared.module.Profile.{Profile}
pub use Rattle.hsail_reader.specs.declared.module.Rounding.{Rounding}
pub use Rattle.hsail_reader.specs.declared.reading.Fields.{Fields}
pub use Rattle.hsail_reader.specs.declared.rows.Form.{Form}
pub use Rattle.hsail_reader.specs.declared.rows.KindAt.{KindAt}
pub use Rattle.hsail_reader.specs.declared.rows.ModifierEnd.{ModifierEnd}
pub use Rattle.hsail_reader.specs.declared.rows.ModifierRow.{ModifierRow}
pub use Rattle.hsail_reader.specs.declared.rows.ModifierSet.{ModifierSet}
pub use Rattle.hsail_reader.specs.declared.rows.Row.{Row}
pub use Rattle.hsail_reader.specs.declared.rows.Shape.{Shape}
pub use Rattle.hsail_reader.specs.declared.rows.Shapes.{Shapes}
pub use Rattle.hsail_reader.specs.declared.rows.TypeSet.{TypeSet}
pub use Rattle.hsail_reader.specs.declared.token.Header.{Header}
pub use Rattle.hsail_reader.specs.declared.token.HeaderName.{HeaderName}
pub use Rattle.hsail_reader.specs.declared.token.Lexeme.{Lexeme}
pub use Rattle.hsail_reader.specs.declared.token.LexemeKind.{LexemeKind}
pub use Rattle.hsail_reader.specs.declared.token.Prefix.{Prefix}
pub use Rattle.hsail_reader.specs.declared.token.TokenKind.{TokenKind}
pub use Rattle.hsail_reader.specs.declared.types.Alignment.{Alignment}
pub use Rattle.hsail_reader.specs.declared.types.Constant.{Constant}
pub use Rattle.hsail_reader.specs.declared.types.DataType.{DataType}
pub use Rattle.hsail_reader.specs.declared.types.Modifier.{Modifier}
pub use Rattle.hsail_reader.specs.declared.types.Modifiers.{Modifiers}
pub use Rattle.hsail_reader.specs.declared.types.Register.{Register}
pub use Rattle.hsail_reader.specs.declared.types.RegisterClass.{RegisterClass}
pub use Rattle.hsail_reader.specs.declared.types.Source.{Source}
pub use Rattle.hsail_reader.specs.declared.types.Width.{Width}
pub use Rattle.hsail_reader.specs.declared.words.Opcode.{Opcode}
pub use Rattle.hsail_reader.specs.declared.words.Word.{Word}
pub use Rattle.hsail_reader.specs.declared.types.RegisterClass.TheVariants.{Control, Double, Single}
pub use Rattle.hsail_reader.specs.declared.types.DataType.TheVariants.{B1, B16, B32, B64, B8, S16, S32, S64, S8, U16, U32, U64, U8}
pub use Rattle.hsail_reader.specs.declared.rows.TypeSet.TheVariants.{Bit, Bits, Bits32And64, BitsAndIntegers, Convertible, Integers, Memory, Unsigned32, Unsigned32And64, Untyped}
pub use Rattle.hsail_reader.specs.declared.types.Alignment.TheVariants.{Eight, Four, One, Sixteen, Two}
pub use Rattle.hsail_reader.specs.declared.types.Width.TheVariants.{All, Number, WaveSize}
pub use Rattle.hsail_reader.specs.declared.token.Header.TheVariants.{Base, Default, Full, Large, Near, Zero}
pub use Rattle.hsail_reader.specs.declared.token.LexemeKind.TheVariants.{Blank, Comment, Token}
