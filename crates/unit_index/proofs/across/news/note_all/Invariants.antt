use Rattle.std.proofs.Common.{◌≡◌, ◌||◌, ℕ, nat_eq, List, length}
use Rattle.std.specs.Cmp.Lexicographic.{pointwise}
use Rattle.std.specs.List.{list_any}
use Rattle.unit_index.specs.News.{has}
use Rattle.unit_index.proofs.across.news.note_all.Given as goal

abbrev pub invariant-names : goal.invariant-names
invariant-names l = (q : List ℕ) → (has l.names q || list_any (λ e. pointwise nat_eq e.name q) l.rest) ≡ (has l.fn.names q || list_any (λ e. pointwise nat_eq e.name q) l.exports)

abbrev pub decreases-names : goal.decreases-names
decreases-names l = length l.rest
