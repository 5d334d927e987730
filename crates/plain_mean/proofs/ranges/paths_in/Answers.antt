use Rattle.std.proofs.Common.{ap, sym, ◌∙◌}
use Rattle.std.specs.FinMap.{keys}
use Rattle.std.specs.List.{filter_map}
use Rattle.std.proofs.lemmas.List.{nil_from_length}
use Rattle.doc_texts.specs.Texts.{add_all, marked}
use Rattle.uri_paths.specs.Paths.{path_read}
use Rattle.plain_mean.proofs.Ranging.{paths_turn}
use Rattle.plain_mean.proofs.ranges.paths_in.Goals as goal

pub turn-init : goal.turn-init
turn-init c = ap (λ set. add_all set (filter_map (λ t. path_read t.file) c.args.toks.now)) c.new-set.ensures

pub turn-preserved : goal.turn-preserved
turn-preserved c =
    paths_turn c.turn.set c.add_path.new.set (marked (filter_map (λ t. path_read t.file) c.args.toks.now)) c.in-Some.tok.now c.turn.rest.now c.in-Some.behind.now c.in-Some.ensures.cases.0
    c.in_ok-add_path.ensures c.turn.invariant

pub returns : goal.returns
returns c =
    c.in_ok-paths.ensures
    ∙ ap keys (ap (λ ts. add_all c.turn.set (filter_map (λ t. path_read t.file) ts)) (sym (nil_from_length c.turn.rest.now c.in_default.ensures.cases)) ∙ c.turn.invariant)
