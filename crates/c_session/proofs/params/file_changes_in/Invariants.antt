use Rattle.std.proofs.Common.{◌≡◌, ◌++◌, map, drop, codes, Ok}
use Rattle.serde_json.specs.View.{view}
use Rattle.json_view.specs.Members.{object_in}
use Rattle.json_view.specs.Refusals.{and_then}
use Rattle.c_session.specs.Params.{each_in, file_change_in}
use Rattle.c_session.specs.Ties.SeenParams.{seen_file_change}
use Rattle.c_session.proofs.params.file_changes_in.Given as goal

abbrev pub invariant-loop-element : goal.invariant-loop-element
invariant-loop-element l = each_in (object_in file_change_in (codes "changes")) (map view l.elements) ≡ and_then (each_in (object_in file_change_in (codes "changes")) (map view (drop l.element-index l.elements))) (λ more. Ok (map seen_file_change l.changes.items ++ more))
