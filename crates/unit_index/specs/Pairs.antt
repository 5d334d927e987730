-- Pairs of tags, the first of one unit and the second of another.
use Rattle.std.specs.Prelude.{Bool}
use Rattle.type_data.specs.declared.members.TagKind.{TagKind}
use Rattle.type_data.specs.declared.names.TagId.{TagId}
use Rattle.unit_index.specs.declared.pairs.TagPair.{TagPair}
use Rattle.unit_index.specs.contracts.pairs.TagPairPartialEq.TheImpl as pairs

abbrev pub same_pair : TagPair → TagPair → Bool
same_pair p q = pairs.eq-value.it p q

-- one of which its unit knows nothing is read as a tag of this kind
abbrev pub pair : TagKind → TagId → TagId → TagPair
pair kind a b = record { read_as = kind; left = a; right = b }
