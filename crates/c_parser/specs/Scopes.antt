-- Kinds of tokens under flags that tell by their numbers which typedef names are hidden.
use Rattle.std.specs.Prelude.{ℕ, nat_lt, List, Bool, false, if◌then◌else◌, slice_index_or}
use Rattle.c_parser.specs.declared.kinds.Kind.{Kind}
use Rattle.c_parser.specs.declared.kinds.Kind.TheVariants.{Identifier, TypeName}

abbrev pub shade : List Bool → Kind → Kind
shade hidden (TypeName n) = if slice_index_or hidden n false then Identifier else TypeName n
shade hidden k = k

-- the same in a part that begins at `from`; the number stands behind the last enumerator of its name in front of it
abbrev pub force : ℕ → ℕ → Kind → Kind
force earlier from (TypeName n) = if nat_lt from earlier then Identifier else TypeName n
force earlier from k = k

abbrev pub forced : List Bool → ℕ → ℕ → Kind → Kind
forced hidden earlier from k = force earlier from (shade hidden k)
