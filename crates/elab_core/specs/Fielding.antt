-- One member more of a structure or union (ISO C11 6.7.2.1), and the end of the list.
use Rattle.std.specs.Prelude.{ℕ, ◌==◌, Bool, false, List, [], ◌∷◌, Option, Some, None, if◌then◌else◌}
use Rattle.asking.specs.Asking.{Asking, Gives, and_then}
use Rattle.head_rules.specs.Bare.{member}
use Rattle.head_rules.specs.Fields.{Gathered, field}
use Rattle.head_rules.specs.Flexible.{closed, faults}
use Rattle.head_rules.specs.declared.naming.Constant.{Constant}
use Rattle.head_rules.specs.declared.naming.Constant.TheVariants as constant
use Rattle.head_rules.specs.declared.outcomes.Denotes.{Denotes}
use Rattle.head_rules.specs.declared.outcomes.Denotes.TheVariants as denotes
use Rattle.head_rules.specs.declared.outcomes.Fielded.{Fielded}
use Rattle.head_rules.specs.declared.parts.FieldParts.{FieldParts}
use Rattle.scope_tables.specs.declared.entities.Anchor.{Anchor}
use Rattle.scope_tables.specs.declared.entities.Anchor.TheVariants as anchor
use Rattle.scope_tables.specs.declared.entities.Entity.{Entity}
use Rattle.scope_tables.specs.declared.entities.EntityKind.TheVariants as kind
use Rattle.scope_tables.specs.declared.entities.Life.TheVariants as life
use Rattle.scope_tables.specs.declared.entities.Linkage.TheVariants as linkage
use Rattle.scope_tables.specs.declared.entities.Role.TheVariants as role
use Rattle.scope_tables.specs.Files.{text_of}
use Rattle.type_data.specs.declared.judged.Fault.{Fault}
use Rattle.type_data.specs.declared.judged.Judged.{Judged}
use Rattle.type_data.specs.declared.members.Member.{Member}
use Rattle.type_data.specs.declared.names.TagId.{TagId}
use Rattle.type_data.specs.Types.{Bad_type}
use Rattle.type_rel.specs.Kinds.{is_bad, unqualified}
use Rattle.elab_state.specs.Contexts.{Context}
use Rattle.elab_state.specs.declared.made.Made.{Made}
use Rattle.elab_state.specs.Doings.{Doing, gives, with_entity, with_fault}
use Rattle.elab_state.specs.Looks.{At, Deep, look}
use Rattle.elab_state.specs.Names.{occurs}
use Rattle.elab_state.specs.Tokens.{token}
use Rattle.elab_state.specs.Wants.{wants}
use Rattle.elab_core.specs.Constants.{needed}
use Rattle.elab_core.specs.declared.shapes.Gathered.{Gathered as Specs}
use Rattle.elab_core.specs.declared.shapes.Typed.{Typed}
use Rattle.elab_core.specs.Flexible.{is_flexible}
use Rattle.elab_core.specs.Notes.{constant_of, named_token, noted, renumbered}
use Rattle.elab_core.specs.Parameters.{or_at}

-- ---- one declarator, whose name is `own` where it has one; `at` is the token on which its faults stand

abbrev pub parts : Context → Specs → ℕ → Option ℕ → Typed → Constant → Bool → FieldParts
parts c s at own t w flexible = record {
  name = named_token c own;
  at = at;
  ty = t.ty;
  qual = t.qual;
  width = w;
  align = s.align.value;
  align_at = or_at s.align.at at;
  flexible = flexible;
}

-- 6.2.3: members have a name space of their own, so no scope binds them
abbrev pub defined : Context → ℕ → Entity → Made → Made
defined c n e m = with_entity e (occurs c n e.anchor role.Defines m)

-- the earlier member that has its name
abbrev pub marked_earlier : Context → ℕ → TagId → Made → Made
marked_earlier c n id m = occurs c n (anchor.Local (token (text_of id.item) id.at)) role.Defines m

abbrev pub denoting : Context → ℕ → Denotes → Made → Made
denoting c n (denotes.Itself e) m = defined c n e m
denoting c n (denotes.Earlier id) m = marked_earlier c n id m
denoting c n denotes.Nothing m = m

abbrev pub denoting_if_named : Context → Option ℕ → Denotes → Made → Made
denoting_if_named c (Some n) d m = denoting c n d m
denoting_if_named c None d m = m

-- 402 stands on a name by its number in the item
abbrev pub placed : Context → Fault → Fault
placed c f = if f.rule == 402 then renumbered c f else f

abbrev pub placed_if : Context → Option Fault → Option Fault
placed_if c None = None
placed_if c (Some f) = Some (placed c f)

abbrev pub told : Context → Option ℕ → Fielded × Gathered → Made → Gathered × Made
told c own r m = (r.1, denoting_if_named c own r.0.denotes (noted (placed_if c r.0.fault) m))

abbrev pub fielded : Context → Option ℕ → FieldParts → Gathered → Made → Gathered × Made
fielded c own w s m = told c own (field m.tags w s) m

-- the row reads the size and completeness of its type, and p3 whether it holds a flexible array member at any depth
abbrev pub looked : Context → Typed → Made → Asking wants Made
looked c t m = and_then (look c.item (At t.ty) m) (λ now. look c.item (Deep t.ty) now)

abbrev pub with_type : Context → Specs → ℕ → Option ℕ → Typed → Gathered → Made → Gathered × Made
with_type c s at own t g m = fielded c own (parts c s at own t constant.Absent (is_flexible m.tags t.ty)) g m

abbrev pub declared : Context → Specs → ℕ → Option ℕ → Typed → Gathered → Made → Doing Gathered
declared c s at own t g m = and_then (looked c t m) (λ now. Gives (with_type c s at own t g now))

-- a bit-field, whose width begins with the token `begins`
abbrev pub with_width : Context → Specs → ℕ → Option ℕ → Typed → Constant → Gathered → Made → Gathered × Made
with_width c s at own t w g m = fielded c own (parts c s at own t w false) g m

abbrev pub judged_width : Context → Specs → ℕ → Option ℕ → Typed → ℕ → Judged → Gathered → Made → Gathered × Made
judged_width c s at own t begins j g m = with_width c s at own t (constant_of (needed begins j m).0) g (needed begins j m).1

abbrev pub bits : Context → Specs → ℕ → Option ℕ → Typed → ℕ → Judged → Gathered → Made → Doing Gathered
bits c s at own t begins j g m = and_then (look c.item (At t.ty) m) (λ now. Gives (judged_width c s at own t begins j g now))

-- without a declarator: p2, an anonymous structure or union, or 401
abbrev pub bare_by : Context → Specs → ℕ → Typed → Option Fault → Gathered → Made → Doing Gathered
bare_by c s at t (Some f) g m = gives g (with_fault f m)
bare_by c s at t None g m = declared c s at None t g m

abbrev pub bare : Context → Specs → ℕ → Typed → Gathered → Made → Doing Gathered
bare c s at t g m = bare_by c s at t (member at (is_bad t.ty) s.specified) g m

-- ---- the end of the list: p18, an array of no size is the last member, else it has no type

abbrev pub first_text : List (List ℕ) → List ℕ
first_text [] = []
first_text (text ∷ more) = text

abbrev pub withdrawn_entity : Context → Fault → Entity
withdrawn_entity c f = record {
  name = first_text f.names;
  kind = kind.Member;
  ty = Bad_type;
  qual = unqualified;
  linkage = linkage.None;
  life = life.Without;
  value = None;
  anchor = anchor.Local (token c.file f.at);
}

abbrev pub withdrawn : Context → Fault → Made → Made
withdrawn c f m = with_entity (withdrawn_entity c f) (with_fault (renumbered c f) m)

abbrev pub all_withdrawn : Context → List Fault → Made → Made
all_withdrawn c [] m = m
all_withdrawn c (f ∷ fs) m = all_withdrawn c fs (withdrawn c f m)

abbrev pub ended : Context → Gathered → Made → Made
ended c g m = all_withdrawn c (faults g.members) m

abbrev pub list_of : Context → Gathered → Made → List Member × Made
list_of c g m = (closed g.members, ended c g m)
