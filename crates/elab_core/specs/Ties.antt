-- What the code's values stand for.
use Rattle.type_data.specs.Types.{Ty, Basic_type, Void_type}
use Rattle.elab_core.specs.declared.kinds.Kind.{Kind}
use Rattle.elab_core.specs.declared.kinds.Kind.TheVariants as kind

abbrev pub shown_kind : Kind → Ty
shown_kind kind.Void = Void_type
shown_kind (kind.Basic b) = Basic_type b
