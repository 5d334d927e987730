-- What the code's messages stand for.
use Rattle.std.specs.Prelude.{option_map}
use Rattle.serde_json.specs.View.{view}
use Rattle.c_session.specs.Message as spec
use Rattle.c_session.specs.declared.message.Message.{Message}
use Rattle.c_session.specs.declared.message.Message.TheVariants as kind

abbrev pub seen : Message → spec.Message
seen kind.NotJson = spec.NotJson
seen kind.Batch = spec.Batch
seen kind.NotObject = spec.NotObject
seen kind.Ignored = spec.Ignored
seen kind.BadId = spec.BadId
seen (kind.BadMethod i) = spec.BadMethod i
seen (kind.Notification method params) = spec.Notification method.now (option_map (λ v. view v.now) params)
seen (kind.Request i method params) = spec.Request i method.now (option_map (λ v. view v.now) params)
