use Rattle.std.proofs.Common.{◌++◌, ◌∷◌, [], ap, ◌∙◌}
use Rattle.unit_index.specs.Groups.{in_group}
use Rattle.unit_index.proofs.GroupLemmas.{more}
use Rattle.unit_index.proofs.groups.add.Goals as goal

pub returns : goal.returns
returns c =
    more c.args.tok.now.file (in_group c.args.groups.now) (in_group c.taken-list.new.groups) (in_group c.put.new.groups) c.args.tok.now c.push.new.self.items
    c.in_ok-put.ensures c.taken-list.ensures.others
    (c.in_ok-push.ensures.items ∙ ap (λ xs. xs ++ c.in_ok-copy.copy ∷ []) c.taken-list.ensures.list
    ∙ ap (λ t. in_group c.args.groups.now c.args.tok.now.file ++ t ∷ []) c.in_ok-copy.ensures)
