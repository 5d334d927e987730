use Rattle.std.proofs.Common.{◌||◌, ap, ◌∙◌}
use Rattle.std.specs.List.{filter, list_any}
use Rattle.unit_index.specs.Groups.{in_group, is_in}
use Rattle.unit_index.specs.Introduced.{brings}
use Rattle.unit_index.specs.Sets.{has_tok}
use Rattle.unit_index.proofs.IntroducedLemmas.{by_files}
use Rattle.unit_index.proofs.SharedLemmas.{any_same}
use Rattle.unit_index.proofs.introduced.note_unit.Goals as goal

pub returns : goal.returns
returns c = λ ts is q.
    c.in_ok-note_files.ensures q
    ∙ ap (λ b. has_tok c.args.found.now q || b)
    (any_same (λ f. list_any (brings c.args.unit.now q) (in_group c.args.groups.now f)) (λ f. list_any (brings c.args.unit.now q) (filter (is_in f) ts))
    (λ f. ap (list_any (brings c.args.unit.now q)) (is f)) c.files.result.now
    ∙ by_files c.args.unit.now q c.files.result.now ts c.files.ensures)
