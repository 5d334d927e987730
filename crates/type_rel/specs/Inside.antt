-- Walks down through members by value: the tags that a walk is inside of.
use Rattle.std.specs.Prelude.{ℕ, List, if◌then◌else◌}
use Rattle.std.specs.List.{list_any}
use Rattle.type_data.specs.declared.names.TagId.{TagId}
use Rattle.type_data.specs.Same.{same_tag}

-- what the members of a tag have, seen from inside of others: a tag that it is already inside of has none
abbrev pub inside_or : {A : Type 0} → List TagId → TagId → A → A → A
inside_or inside id none others = if list_any (same_tag id) inside then none else others

-- no memory holds as many tags
unfoldable pub most_tags : ℕ
most_tags = 9223372036854775808
