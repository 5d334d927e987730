use Rattle.std.proofs.Common.{◌≡◌, ◌≤◌, nat_le, drop, get_or, ap, subst, ◌∙◌}
use Rattle.std.specs.List.{count_by}
use Rattle.text_lines.proofs.Counts.{partition_count, line_counted, begins_before}
use Rattle.text_lines.proofs.table.LineTable.line.Goals as goal

pub returns-clause-count : goal.returns-clause-count
returns-clause-count c =
    let later : c.split_at.result.1.now ≡ drop 1 c.args.self.now = cc (ap (λ starts. drop 1 starts) c.self.view_is) in
    partition_count c.args.offset _ _ c.count_up_to.ensures.within c.count_up_to.ensures.point ∙ ap (λ starts. count_by (λ start. nat_le start c.args.offset) starts) later

pub returns-clause-begins : goal.returns-clause-begins
returns-clause-begins c =
    let later : c.split_at.result.1.now ≡ drop 1 c.self.inside.starts.items = cc in
    subst (λ starts. get_or starts c.count_up_to.result 0 ≤ c.args.offset) c.self.view_is
    (begins_before c.self.inside.starts.items _ _ _ later c.self.invariant c.count_up_to.ensures.point)

pub returns-clause-place : goal.returns-clause-place
returns-clause-place c text encoding e =
    returns-clause-count c ∙ ap (λ starts. count_by (λ start. nat_le start c.args.offset) (drop 1 starts)) e ∙ line_counted text encoding c.args.offset
