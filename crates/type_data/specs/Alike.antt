-- What is known of tags, compared in turn. What the parts are compared by is the derived `==` of their types.
use Rattle.std.specs.Prelude.{Bool, ◌&&◌}
use Rattle.type_data.specs.declared.members.TagInfo.{TagInfo}
use Rattle.type_data.specs.declared.names.TagId.{TagId}
use Rattle.type_data.specs.contracts.members.TagInfoPartialEq.TheImpl as infos
use Rattle.type_data.specs.Same.{same_tag}

abbrev pub same_info : TagInfo → TagInfo → Bool
same_info a b = infos.eq-value.it a b

abbrev pub same_entry : TagId × TagInfo → TagId × TagInfo → Bool
same_entry p q = same_tag p.0 q.0 && same_info p.1 q.1
