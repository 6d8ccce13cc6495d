-- A text and the module that it spells (own).
use Rattle.std.specs.Prelude.{ℕ, List, [], ◌∷◌, None, codes}
use Rattle.hsail_reader.specs.declared.module.Address.TheVariants as addresses
use Rattle.hsail_reader.specs.Nouns.{Argument, Item, Kernel, Module}
use Rattle.hsail_reader.specs.declared.module.Item.TheVariants as items
use Rattle.hsail_reader.specs.declared.module.Operand.TheVariants as operand
use Rattle.hsail_reader.specs.declared.module.Profile.TheVariants as profiles
use Rattle.hsail_reader.specs.declared.module.Rounding.TheVariants as roundings
use Rattle.hsail_reader.specs.declared.rows.Form.TheVariants as forms
use Rattle.hsail_reader.specs.declared.types.DataType.TheVariants as types
use Rattle.hsail_reader.specs.declared.types.Modifier.TheVariants as modifier
use Rattle.hsail_reader.specs.declared.types.Modifiers.TheVariants as modifiers
use Rattle.hsail_reader.specs.declared.types.RegisterClass.TheVariants as classes
use Rattle.hsail_reader.specs.declared.types.Segment.TheVariants as segments

unfoldable pub sample : List ℕ
sample =
    codes "module &m:1:0:$base:$large:$default;\nprog kernel &k(kernarg_u64 %p)\n{\n  ld_kernarg_align(8)_u64 $d0, [%p]; // the argument\n};"

abbrev pub sample_argument : Argument
sample_argument = record { line = 2; align = None; kind = types.U64; name = codes "%p" }

abbrev pub sample_item : Item
sample_item = items.Instruction (record {
  line = 4;
  operation = record {
    form = forms.Load;
    modifiers = modifiers.One (modifier.Align 8);
    kind = types.U64;
    operands = record {
      first = operand.Target (record { kind = types.U64; register = record { class = classes.Double; number = 0 } });
      second = operand.Address (record {
        segment = segments.Kernarg;
        kind = types.U64;
        address = addresses.Variable (codes "%p");
      });
      third = operand.Absent;
      fourth = operand.Absent;
    };
  };
})

abbrev pub sample_kernel : Kernel
sample_kernel = record {
  line = 2;
  name = codes "&k";
  arguments = sample_argument ∷ [];
  items = sample_item ∷ [];
}

unfoldable pub sample_module : Module
sample_module = record {
  name = codes "&m";
  minor = 0;
  profile = profiles.Base;
  rounding = roundings.Default;
  kernels = sample_kernel ∷ [];
}
