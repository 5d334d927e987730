-- Enumerators (ISO C11 6.7.2.2), one after another.
use Rattle.std.specs.Prelude.{ℤ, pos, negsuc, ◌+ℤ◌, Bool, true, ◌&&◌, int_le, List, [], ◌∷◌, ◌++◌, Option, Some, None, if◌then◌else◌}
use Rattle.scope_tables.specs.Levels.{Scope}
use Rattle.scope_tables.specs.Scopes.{here}
use Rattle.scope_tables.specs.declared.entities.Anchor.TheVariants as anchor
use Rattle.scope_tables.specs.declared.entities.Entity.{Entity}
use Rattle.scope_tables.specs.declared.entities.EntityKind.TheVariants as kind
use Rattle.scope_tables.specs.declared.entities.Life.TheVariants as life
use Rattle.scope_tables.specs.declared.entities.Linkage.TheVariants as linkage
use Rattle.type_data.specs.declared.basics.Basic.TheVariants as basic
use Rattle.type_data.specs.declared.judged.Fault.{Fault}
use Rattle.type_data.specs.declared.members.Member.{Member}
use Rattle.type_data.specs.declared.members.Space.TheVariants as space
use Rattle.type_data.specs.declared.values.Value.{Value}
use Rattle.type_data.specs.declared.values.Value.TheVariants.{Known, Unknown, Faulty}
use Rattle.type_data.specs.Types.{Basic_type}
use Rattle.type_rel.specs.Kinds.{unqualified}
use Rattle.head_rules.specs.declared.naming.Constant.{Constant}
use Rattle.head_rules.specs.declared.naming.Constant.TheVariants as constant
use Rattle.head_rules.specs.declared.naming.NameToken.{NameToken}
use Rattle.head_rules.specs.declared.outcomes.Enumerated.{Enumerated}
use Rattle.head_rules.specs.Faults.{of_name}

-- What was read of a list: the value of the next enumerator that states none, and the members of the enumeration.
pub record Listed : Type 0 where
  pub next : Value
  pub members : List Member

-- p3: the first one is 0
abbrev pub none_listed : Listed
none_listed = record { next = Known (pos 0); members = [] }

-- p2: an `int` holds it
unfoldable pub is_int : ℤ → Bool
is_int z = int_le (negsuc 2147483647) z && int_le z (pos 2147483647)

-- what isn't known is held by any type
abbrev pub is_held : Value → Bool
is_held (Known z) = is_int z
is_held Unknown = true
is_held (Faulty rule) = true

-- p3: one more than the last; of what follows a refused one nothing is known
abbrev pub after : Value → Value
after (Known z) = if is_int z then Known (z +ℤ pos 1) else Unknown
after Unknown = Unknown
after (Faulty rule) = Unknown

-- the value that it states, or the next one; none where its expression has a fault
abbrev pub stated : Constant → Value → Option Value
stated constant.Absent next = Some next
stated (constant.Is v) next = Some v
stated constant.Faulty next = None

abbrev pub held : Value → Value
held v = if is_held v then v else Unknown

-- of what is refused, or has a fault, nothing is known
abbrev pub value_of : Option Entity → Option Value → Value
value_of (Some e) v = Unknown
value_of None None = Unknown
value_of None (Some v) = held v

-- 402: the name is declared in the same scope (6.7p3); 411: no `int` holds its value. The fault of its expression was told.
abbrev pub unheld : NameToken → Value → Option Fault
unheld n v = if is_held v then None else Some (of_name 411 n.id.at n.name)

abbrev pub fault_of : NameToken → Option Entity → Option Value → Option Fault
fault_of n before None = None
fault_of n (Some e) (Some v) = Some (of_name 402 n.id.at n.name)
fault_of n None (Some v) = unheld n v

-- p3: it has the type int
abbrev pub entity : NameToken → Value → Entity
entity n v = record {
  name = n.name;
  kind = kind.Enumerator;
  ty = Basic_type basic.Int;
  qual = unqualified;
  linkage = linkage.None;
  life = life.Without;
  value = Some v;
  anchor = anchor.Local n.tok;
}

-- what its name denotes from here on (6.2.1p7); none where the scope's earlier one stays
abbrev pub entity_of : NameToken → Option Entity → Value → Option Entity
entity_of n (Some e) v = None
entity_of n None v = Some (entity n v)

abbrev pub member : NameToken → Value → Member
member n v = record {
  name = Some n.name;
  ty = Basic_type basic.Int;
  qual = unqualified;
  width = None;
  align = None;
  value = Some v;
  at = Some n.id;
}

abbrev pub listed : NameToken → Value → Listed → Listed
listed n v s = record { next = after v; members = s.members ++ member n v ∷ [] }

abbrev pub with_value : NameToken → Option Entity → Option Value → Listed → Enumerated × Listed
with_value n before v s =
    (record { entity = entity_of n before (value_of before v); fault = fault_of n before v }, listed n (value_of before v) s)

-- one more; `before` is what its name denotes in the same scope
abbrev pub with_name : NameToken → Option Entity → Constant → Listed → Enumerated × Listed
with_name n before c s = with_value n before (stated c s.next) s

abbrev pub enumerator : List Scope → NameToken → Constant → Listed → Enumerated × Listed
enumerator scopes n c s = with_name n (here space.Ordinary n.name scopes) c s
