use Rattle.std.proofs.Common.{◌≡◌, map, drop, option_map, Ok}
use Rattle.std.specs.Option.{option_or}
use Rattle.serde_json.specs.View.{view}
use Rattle.json_view.specs.Refusals.{and_then}
use Rattle.c_session.specs.Params.{each_in, folder_uri_in, first_of}
use Rattle.c_session.proofs.params.first_uri_in.Given as goal

abbrev pub invariant-loop-folder : goal.invariant-loop-folder
invariant-loop-folder l = and_then (each_in folder_uri_in (map view l.folders)) (λ uris. Ok (first_of uris)) ≡ and_then (each_in folder_uri_in (map view (drop l.folder-index l.folders))) (λ uris. Ok (option_or (option_map (λ uri. uri.now) l.first) (first_of uris)))
