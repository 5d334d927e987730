-- Names of members in expressions, designations and `__offsetof` (ISO C11 6.5.2.3, 6.7.9p7, 7.19p3), and their occurrences.
use Rattle.std.specs.Prelude.{ℕ, Bool, List, [], ◌∷◌, Option, Some, None, bytes_eq, codes, if◌then◌else◌}
use Rattle.asking.specs.Asking.{and_then}
use Rattle.scope_tables.specs.declared.entities.Anchor.{Anchor}
use Rattle.scope_tables.specs.declared.entities.Role.TheVariants as role
use Rattle.type_data.specs.declared.judged.Judged.{Judged}
use Rattle.type_data.specs.Types.{Ty, Bad_type}
use Rattle.init_rules.specs.declared.state.InitPiece.TheVariants as piece
use Rattle.init_rules.specs.declared.state.OpenPlace.{OpenPlace}
use Rattle.init_rules.specs.Stacks.{top}
use Rattle.expr_rules.specs.declared.parts.Operator.{Operator}
use Rattle.expr_rules.specs.declared.parts.Form.{Form}
use Rattle.expr_rules.specs.declared.parts.Form.TheVariants as form
use Rattle.type_rel.specs.Kinds.{Tagging}
use Rattle.elab_state.specs.declared.made.Made.{Made}
use Rattle.elab_state.specs.Doings.{Doing}
use Rattle.elab_state.specs.Names.{occurs}
use Rattle.elab_state.specs.Tokens.{spelling}
use Rattle.elab_core.specs.declared.shapes.Filling.{Filling}
use Rattle.elab_core.specs.Braced.{filled}
use Rattle.elab_core.specs.Members.{anchor_of, member_of, pointed, type_of}
use Rattle.elab_state.specs.Contexts.{Context}
use Rattle.elab_core.specs.Rows.{row_of}
use Rattle.elab_core.specs.Tests.{tests}

abbrev pub occurs_if : Context → ℕ → Option Anchor → Made → Made
occurs_if c n (Some a) m = occurs c n a role.Uses m
occurs_if c n None m = m

abbrev pub anchor_in : Tagging → List ℕ → Ty → Option Anchor
anchor_in tags name t = anchor_of (member_of tags name t)

-- the token n is a use of the member of this type that has its name, where there is one
abbrev pub uses_member : Context → ℕ → Ty → Made → Made
uses_member c n t m = occurs_if c n (anchor_in m.tags (spelling c.tokens n) t) m

-- ---- `.` and `->`

unfoldable pub is_dot : List ℕ → Bool
is_dot text = bytes_eq text (codes ".")

abbrev pub member_form : Bool → List ℕ → Form
member_form dot name = if dot then form.Dot name else form.Arrow name

abbrev pub holder_of : Bool → Ty → Ty
holder_of dot t = if dot then t else pointed t

abbrev pub uses_of_operand : Context → ℕ → Bool → Judged → Made → Made
uses_of_operand c n dot e m = uses_member c n (holder_of dot e.ty) m

-- the tags of its row are known first
abbrev pub used_row : Context → Operator → ℕ → Bool → List Judged → Judged → Made → Doing Judged
used_row c o n dot parts e m = row_of c o parts (uses_of_operand c n dot e m)

abbrev pub accessed_by : Context → Operator → ℕ → Bool → List Judged → Judged → Made → Doing Judged
accessed_by c o n dot parts e m = and_then (tests c.item o.form parts m) (λ now. used_row c o n dot parts e now)

abbrev pub operator : ℕ → Bool → List ℕ → Operator
operator at dot name = record { at = at; form = member_form dot name }

-- `at` is the operator and n the name behind it
abbrev pub access : Context → ℕ → ℕ → Judged → Made → Doing Judged
access c at n e m =
    accessed_by c (operator at (is_dot (spelling c.tokens at)) (spelling c.tokens n)) n (is_dot (spelling c.tokens at)) (e ∷ []) e m

-- ---- a designation in an initializer: `.`, which is the token `at`, and the name

-- 6.7.9p18: what was designated is the next part of the innermost object
abbrev pub place_type : Option OpenPlace → Ty
place_type (Some p) = p.ty
place_type None = Bad_type

abbrev pub uses_designated : Context → ℕ → Filling × Made → Filling × Made
uses_designated c n r = (r.0, uses_member c n (place_type (top r.0.state.open_places)) r.1)

abbrev pub designated_field : Context → ℕ → ℕ → Filling → Made → Filling × Made
designated_field c at n f m = uses_designated c n (filled at (piece.Field (spelling c.tokens n)) f m)

-- ---- `__offsetof`: from a type to that of its member

abbrev pub offset_field : Context → ℕ → Ty → Made → Ty × Made
offset_field c n t m = (type_of (member_of m.tags (spelling c.tokens n) t), uses_member c n t m)
