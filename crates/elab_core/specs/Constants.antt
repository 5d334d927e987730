-- Constants and string literals (ISO C11 6.4.4, 6.4.5), and integer constant expressions where one is needed (6.6).
use Rattle.std.specs.Prelude.{ℕ, List, [], ◌∷◌, map, Option, Some, None, slice_get, if◌then◌else◌}
use Rattle.c_literals.specs.declared.literal.Literal.{Literal}
use Rattle.c_literals.specs.declared.literal.Literal.TheVariants as literal
use Rattle.c_literals.specs.Character.{character}
use Rattle.c_literals.specs.Floating.{integer}
use Rattle.c_literals.specs.Strings as strings
use Rattle.c_literals.specs.Strings.{string_pieces}
use Rattle.tok_data.specs.declared.tokens.OutToken.{OutToken}
use Rattle.tok_data.specs.declared.tokens.PpKind.{PpKind}
use Rattle.tok_data.specs.declared.tokens.PpKind.TheVariants as pp
use Rattle.type_data.specs.declared.judged.Constancy.{Constancy}
use Rattle.type_data.specs.declared.judged.Constancy.TheVariants as constancy
use Rattle.type_data.specs.declared.judged.Judged.{Judged}
use Rattle.type_data.specs.declared.values.Value.{Value}
use Rattle.type_data.specs.declared.values.Value.TheVariants.{Known, Unknown, Faulty}
use Rattle.type_rel.specs.Conversion.{converted}
use Rattle.type_rel.specs.Kinds.{is_bad}
use Rattle.expr_rules.specs.declared.parts.Form.{Form}
use Rattle.expr_rules.specs.declared.parts.Form.TheVariants as form
use Rattle.elab_state.specs.declared.made.Made.{Made}
use Rattle.elab_state.specs.Doings.{Doing, fault, with_fault}
use Rattle.elab_state.specs.Tokens.{first_number, spelling}
use Rattle.elab_state.specs.Contexts.{Context}
use Rattle.elab_core.specs.Rows.{row}

-- ---- constants

abbrev pub by_kind : PpKind → List ℕ → Literal
by_kind pp.Char text = character text
by_kind pp.Number text = integer text
by_kind pp.Ident text = integer text
by_kind pp.Str text = integer text
by_kind pp.Header text = integer text
by_kind pp.Punct text = integer text
by_kind pp.Stray text = integer text

abbrev pub literal_of : Option OutToken → Literal
literal_of (Some t) = by_kind t.kind t.spelling
literal_of None = integer []

abbrev pub constant : Context → ℕ → Made → Doing Judged
constant c n m = row c n (form.Constant (literal_of (slice_get c.tokens n))) [] m

-- ---- string literals, whose faults stand on the first piece

abbrev pub text_form : strings.Literal → Form
text_form (strings.Bad rule) = form.BadText rule
text_form (strings.Of t) = form.Text (record { prefix = t.prefix; units = t.units })

abbrev pub text : Context → List ℕ → Made → Doing Judged
text c ns m = row c (first_number ns) (text_form (string_pieces (map (spelling c.tokens) ns))) [] m

-- ---- 6.6p6: where an integer constant expression is needed

-- Its value, or none where it has a fault, which was told.
pub data Needed : Type 0 where
  Has : Value → Needed
  Lacks : Needed

abbrev pub told : ℕ → ℕ → Made → Needed × Made
told rule at m = (Lacks, with_fault (fault rule at [] []) m)

abbrev pub of_value : ℕ → Value → Made → Needed × Made
of_value at (Known z) m = (Has (Known z), m)
of_value at Unknown m = (Has Unknown, m)
of_value at (Faulty rule) m = told 531 at m

abbrev pub of_constancy : ℕ → Constancy → Made → Needed × Made
of_constancy at (constancy.Int v) m = of_value at v m
of_constancy at constancy.No m = told 530 at m
of_constancy at constancy.Arith m = told 530 at m
of_constancy at constancy.Addr m = told 530 at m
of_constancy at constancy.Null m = told 530 at m

-- `at` is the first token of the expression
abbrev pub needed : ℕ → Judged → Made → Needed × Made
needed at j m = if is_bad j.ty then (Lacks, m) else of_constancy at (converted j).constant m

abbrev pub as_needed : Option Value → Needed
as_needed (Some v) = Has v
as_needed None = Lacks
