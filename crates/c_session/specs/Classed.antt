-- The class of a token over all units, with its name and what stands in the way of another one.
use Rattle.std.specs.Prelude.{List}
use Rattle.rename_core.specs.Chained.{class_toks}
use Rattle.rename_core.specs.Showing as shown
use Rattle.rename_core.specs.declared.class.Class.{Class}
use Rattle.scope_tables.specs.declared.entities.Occ.{Occ}
use Rattle.tok_data.specs.declared.sources.TokId.{TokId}

abbrev pub class_with : List (List Occ) → List TokId → Class
class_with us toks = record {
  toks = toks;
  external = shown.external us toks;
  library = shown.library toks;
  pasted = shown.pasted us toks;
  spelled = shown.spelled us toks;
  two = shown.two us toks;
}

unfoldable pub class_in : List (List Occ) → TokId → Class
class_in us t = class_with us (class_toks us t)
