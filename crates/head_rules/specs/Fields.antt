-- The members of a structure or union (ISO C11 6.7.2.1), one declarator after another. No two of them have the same name (6.2.3p1,
-- 6.7p3), those of anonymous structures and unions among them (p13).
use Rattle.std.specs.Prelude.{ℕ, nat_eq, Bool, true, false, not, List, [], ◌∷◌, ◌++◌, Option, Some, None, if◌then◌else◌, is_some}
use Rattle.std.specs.Cmp.Lexicographic.{pointwise}
use Rattle.indexmap.specs.IndexMap.{insert_entry}
use Rattle.type_data.specs.declared.judged.Fault.{Fault}
use Rattle.type_data.specs.declared.members.Member.{Member}
use Rattle.type_data.specs.declared.members.TagKind.{TagKind}
use Rattle.type_data.specs.declared.names.TagId.{TagId}
use Rattle.type_rel.specs.Kinds.{Tagging}
use Rattle.head_rules.specs.declared.naming.NameToken.{NameToken}
use Rattle.head_rules.specs.declared.outcomes.Denotes.{Denotes}
use Rattle.head_rules.specs.declared.outcomes.Denotes.TheVariants as denotes
use Rattle.head_rules.specs.declared.outcomes.Fielded.{Fielded}
use Rattle.head_rules.specs.declared.parts.FieldParts.{FieldParts}
use Rattle.head_rules.specs.Anonymous.{names_of_type}
use Rattle.head_rules.specs.Faults.{of_name}
use Rattle.head_rules.specs.Members.{entity, has_bad_part, is_anonymous, member_of, misaligned, misshaped}
use Rattle.head_rules.specs.Naming.{Named, there}

-- What was read of a list: its members, and their names, each with the first token that declares it.
pub record Gathered : Type 0 where
  pub kind : TagKind
  pub members : List Member
  pub names : List Named

abbrev pub none_gathered : TagKind → Gathered
none_gathered k = record { kind = k; members = []; names = [] }

-- ---- the names that a member brings

abbrev pub without_name : Tagging → FieldParts → List Named
without_name tags w = if is_anonymous w then names_of_type tags w.ty else []

abbrev pub brought_as : Tagging → FieldParts → Option NameToken → List Named
brought_as tags w (Some n) = (n.name, n.id) ∷ []
brought_as tags w None = without_name tags w

unfoldable pub brought : Tagging → FieldParts → List Named
brought tags w = brought_as tags w w.name

-- ---- 402: the first of them that is there

abbrev pub has : List Named → List ℕ → Bool
has names name = is_some (there name names)

abbrev pub declared_twice : List Named → List Named → Option Fault
declared_twice names [] = None
declared_twice names (n ∷ ns) = if has names n.0 then Some (of_name 402 n.1.at n.0) else declared_twice names ns

-- ---- the fault with the lowest number: 402, 408, 409, 417

abbrev pub or_else : Option Fault → Option Fault → Option Fault
or_else (Some f) more = Some f
or_else None more = more

abbrev pub is_empty : List Named → Bool
is_empty [] = true
is_empty (n ∷ ns) = false

-- `behind` where a named member stands in front
unfoldable pub own_fault : Tagging → FieldParts → TagKind → Bool → Option Fault
own_fault tags w k behind = or_else (misshaped tags k behind w w.width) (misaligned tags w w.align)

unfoldable pub fault_of : Tagging → FieldParts → List Named → Gathered → Option Fault
fault_of tags w ns s = if has_bad_part w then None else or_else (declared_twice s.names ns) (own_fault tags w s.kind (not (is_empty s.names)))

-- ---- one member more

-- a name that is there keeps its token
unfoldable pub noted : List Named → Named → List Named
noted names n = if has names n.0 then names else insert_entry (pointwise nat_eq) names n.0 n.1

abbrev pub all_noted : List Named → List Named → List Named
all_noted names [] = names
all_noted names (n ∷ ns) = all_noted (noted names n) ns

abbrev pub gathered : Member → List Named → Gathered → Gathered
gathered m ns s = record { kind = s.kind; members = s.members ++ m ∷ []; names = all_noted s.names ns }

-- what its name denotes; where an earlier member has the name, that one
abbrev pub itself_or : Option TagId → NameToken → Member → Denotes
itself_or (Some earlier) n m = denotes.Earlier earlier
itself_or None n m = denotes.Itself (entity n m)

abbrev pub denoted : Option NameToken → Member → List Named → Denotes
denoted (Some n) m names = itself_or (there n.name names) n m
denoted None m names = denotes.Nothing

abbrev pub with_member : FieldParts → List Named → Member → Gathered → Denotes × Gathered
with_member w ns m s = (denoted w.name m s.names, gathered m ns s)

unfoldable pub added : FieldParts → List Named → Option Fault → Gathered → Denotes × Gathered
added w ns f s = with_member w ns (member_of w f) s

abbrev pub told : Option Fault → Denotes × Gathered → Fielded × Gathered
told f r = (record { denotes = r.0; fault = f }, r.1)

unfoldable pub with_names : Tagging → FieldParts → List Named → Gathered → Fielded × Gathered
with_names tags w ns s = told (fault_of tags w ns s) (added w ns (fault_of tags w ns s) s)

abbrev pub field : Tagging → FieldParts → Gathered → Fielded × Gathered
field tags w s = with_names tags w (brought tags w) s
