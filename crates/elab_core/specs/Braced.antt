-- The initializer of a compound literal (ISO C11 6.5.2.5, 6.7.9), piece by piece.
use Rattle.std.specs.Prelude.{ℕ, Bool, true, false, ◌||◌, ◌==◌, List, [], ◌∷◌, Option, Some, None, Result, Ok, Err, if◌then◌else◌}
use Rattle.init_rules.specs.declared.state.InitPiece.{InitPiece}
use Rattle.init_rules.specs.declared.state.InitPiece.TheVariants as piece
use Rattle.init_rules.specs.declared.state.InitState.{InitState}
use Rattle.init_rules.specs.Extents.{completed}
use Rattle.init_rules.specs.Steps.{after_piece, fault_of_piece}
use Rattle.scope_tables.specs.declared.entities.ScopeKind.{ScopeKind}
use Rattle.scope_tables.specs.declared.entities.ScopeKind.TheVariants as scope
use Rattle.type_data.specs.declared.judged.Constancy.{Constancy}
use Rattle.type_data.specs.declared.judged.Constancy.TheVariants as constancy
use Rattle.type_data.specs.declared.judged.Fault.{Fault}
use Rattle.type_data.specs.declared.judged.Judged.{Judged}
use Rattle.type_data.specs.declared.values.Value.{Value}
use Rattle.type_data.specs.declared.values.Value.TheVariants.{Known, Unknown, Faulty}
use Rattle.type_data.specs.Types.{Ty, Bad_type}
use Rattle.type_rel.specs.Conversion.{converted}
use Rattle.type_rel.specs.Kinds.{is_bad}
use Rattle.expr_rules.specs.declared.parts.Form.{Form}
use Rattle.expr_rules.specs.declared.parts.Form.TheVariants as form
use Rattle.elab_state.specs.declared.made.Made.{Made}
use Rattle.elab_state.specs.Doings.{with_fault}
use Rattle.elab_core.specs.declared.shapes.Filling.{Filling}
use Rattle.elab_core.specs.declared.shapes.Typed.{Typed}

-- 6.5.2.5p5: outside a function it has static storage duration, and 6.7.9p4 wants constants
abbrev pub is_file : ScopeKind → Bool
is_file scope.File = true
is_file scope.Function = false
is_file scope.Block = false
is_file scope.Prototype = false

abbrev pub begun : Bool → Ty → InitState
begun constant t = record { ty = t; open_places = []; at = 0; constant = constant; designating = false; reached = 0 }

-- before its first piece
abbrev pub empty : ScopeKind → Typed → Filling
empty k t = record { state = begun (is_file k) t.ty; faulty = is_bad t.ty }

-- ---- one piece; its fault stands on the token `at`

abbrev pub at_token : ℕ → Filling → InitState
at_token at f = record f.state { at = at }

abbrev pub with_outcome : Option Fault → InitState → Filling → Made → Filling × Made
with_outcome None s f m = (record f { state = s }, m)
with_outcome (Some e) s f m = (record { state = s; faulty = true }, with_fault e m)

abbrev pub filled : ℕ → InitPiece → Filling → Made → Filling × Made
filled at p f m = with_outcome (fault_of_piece (at_token at f) m.tags p) (after_piece (at_token at f) m.tags p) f m

-- a part with a fault leaves the whole without a type
abbrev pub with_doubt : Bool → Filling → Filling
with_doubt b f = if b then record f { faulty = true } else f

-- an expression, of which `text` says that it is a string literal
abbrev pub item : Bool → Judged → InitPiece
item text j = if text then piece.Text j else piece.Item j

abbrev pub expressed : ℕ → Bool → Judged → Filling → Made → Filling × Made
expressed at text j f m = filled at (item text j) (with_doubt (is_bad j.ty) f) m

-- the value of a designator, or the rule that it breaks; 0 stands for what has a fault, which was told
abbrev pub value_of : Value → Value
value_of (Known z) = Known z
value_of Unknown = Unknown
value_of (Faulty rule) = Faulty 531

abbrev pub index_of : Constancy → Value
index_of (constancy.Int v) = value_of v
index_of constancy.No = Faulty 530
index_of constancy.Arith = Faulty 530
index_of constancy.Addr = Faulty 530
index_of constancy.Null = Faulty 530

abbrev pub index_value : Judged → Value
index_value j = if is_bad j.ty then Faulty 0 else index_of (converted j).constant

-- a fault of the value stands on the expression, whose first token is `begins`, and any other on the `[`, which is `opening`
abbrev pub is_of_value : ℕ → Bool
is_of_value rule = rule == 530 || rule == 531

unfoldable pub on_value : ℕ → Fault → Fault
on_value begins e = if is_of_value e.rule then record e { at = begins } else e

abbrev pub with_told : ℕ → Option Fault → InitState → Filling → Made → Filling × Made
with_told begins None s f m = (record f { state = s }, m)
with_told begins (Some e) s f m = (record { state = s; faulty = true }, with_fault (on_value begins e) m)

abbrev pub filled_by : ℕ → ℕ → InitPiece → Filling → Made → Filling × Made
filled_by opening begins p f m = with_told begins (fault_of_piece (at_token opening f) m.tags p) (after_piece (at_token opening f) m.tags p) f m

-- of one in a list of which nothing is checked nothing is told
abbrev pub designated : ℕ → ℕ → Judged → Filling → Made → Filling × Made
designated opening begins j f m = filled_by opening begins (piece.Index (index_value j)) (with_doubt (is_bad j.ty) f) m

-- ---- behind its last piece: the type, none where some piece has a fault

abbrev pub whole_type : Filling → Ty
whole_type f = if f.faulty then Bad_type else completed f.state

abbrev pub whole : ScopeKind → Typed → Filling → Form
whole k t f = form.Compound (whole_type f) t.qual k
