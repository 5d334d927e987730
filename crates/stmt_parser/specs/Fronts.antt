-- What a statement begins with (ISO C11 6.8).
use Rattle.std.specs.Prelude.{◌≡◌, ℕ, ◌+◌, ◌&&◌, not, Bool, true, false}
use Rattle.c_parser.specs.declared.kinds.Kind.{Kind}
use Rattle.c_parser.specs.declared.kinds.Kind.TheVariants as kind
use Rattle.c_parser.specs.declared.kinds.Kind.TheVariants.{Colon, OpenBrace}
use Rattle.c_parser.specs.Kinds.{is_word}
use Rattle.c_parser.specs.Parts.{starts_declaration}
use Rattle.c_parser.specs.Words.{Words, kind_in}
use Rattle.stmt_parser.specs.declared.fronts.Front.{Front}
use Rattle.stmt_parser.specs.declared.fronts.Front.TheVariants.{Label, Case, Default, If, Switch, While, For, Do, Block, Goto, Continue, Break, Return, Plain}

abbrev pub is_colon : Kind → Bool
is_colon Colon = true
is_colon _ = false

-- a label stands here
unfoldable pub labels_at : Words → ℕ → Bool
labels_at w at = is_word (kind_in w at) && is_colon (kind_in w (at + 1))

-- a keyword of statements, or `{`, but for `else`
abbrev pub is_marked : Kind → Bool
is_marked kind.Case = true
is_marked kind.Default = true
is_marked kind.If = true
is_marked kind.Switch = true
is_marked kind.While = true
is_marked kind.For = true
is_marked kind.Do = true
is_marked OpenBrace = true
is_marked kind.Goto = true
is_marked kind.Continue = true
is_marked kind.Break = true
is_marked kind.Return = true
is_marked _ = false

-- a statement that stands here begins so; an expression statement where nothing else does
abbrev pub IsFront : Words → ℕ → Front → Type 0
IsFront w at Label = labels_at w at ≡ true
IsFront w at Case = kind_in w at ≡ kind.Case
IsFront w at Default = kind_in w at ≡ kind.Default
IsFront w at If = kind_in w at ≡ kind.If
IsFront w at Switch = kind_in w at ≡ kind.Switch
IsFront w at While = kind_in w at ≡ kind.While
IsFront w at For = kind_in w at ≡ kind.For
IsFront w at Do = kind_in w at ≡ kind.Do
IsFront w at Block = kind_in w at ≡ OpenBrace
IsFront w at Goto = kind_in w at ≡ kind.Goto
IsFront w at Continue = kind_in w at ≡ kind.Continue
IsFront w at Break = kind_in w at ≡ kind.Break
IsFront w at Return = kind_in w at ≡ kind.Return
IsFront w at Plain = (labels_at w at ≡ false) × (is_marked (kind_in w at) ≡ false)

-- a front of what no statement outside of braces stands in
abbrev pub IsCore : Front → Type 0
IsCore Label = ⊥
IsCore Case = ⊥
IsCore Default = ⊥
IsCore If = ⊥
IsCore Switch = ⊥
IsCore While = ⊥
IsCore For = ⊥
IsCore Do = ⊥
IsCore _ = Unit {0}

-- a declaration begins here, and no label
unfoldable pub declares_at : Words → ℕ → Bool
declares_at w at = starts_declaration (kind_in w at) && not (labels_at w at)
