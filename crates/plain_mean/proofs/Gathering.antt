-- What is gathered of one unit after another.
use Rattle.std.proofs.Common.{◌≡◌, ℕ, ◌||◌, List, ◌++◌, bytes_eq, sym, ap, ◌∙◌}
use Rattle.std.proofs.lemmas.List.Elements.{filter-append}
use Rattle.std.proofs.lemmas.List.Folds.{list_any-append}
use Rattle.std.specs.List.{filter, list_any}
use Rattle.tok_data.specs.declared.faults.ShownFault.{ShownFault}
use Rattle.plain_mean.specs.Gathered.{AreGathered, faults_at}
use Rattle.plain_mean.specs.Marks.{is_marked}
use Rattle.plain_mean.specs.Shown.{falls_on}
use Rattle.plain_mean.specs.declared.lists.Gathered.{Gathered}

module _ (g : Gathered) (fs : List ShownFault) (rs : List (List ℕ)) (are : AreGathered fs rs g) where
  pub faults_added : (g' : Gathered) (more : List ShownFault) → ((q : List ℕ) → faults_at g'.faults q ≡ faults_at g.faults q ++ filter (falls_on q) more) →
      g'.reads ≡ g.reads → AreGathered (fs ++ more) rs g'
  faults_added g' more put same = record {
    faults = λ q. put q ∙ ap (λ all. all ++ filter (falls_on q) more) (are.faults q) ∙ sym (filter-append (falls_on q) fs more);
    reads = λ q. ap (λ marks. is_marked marks q) same ∙ are.reads q;
  }

  pub reads_added : (g' : Gathered) (more : List (List ℕ)) → ((q : List ℕ) → is_marked g'.reads q ≡ (is_marked g.reads q || list_any (bytes_eq q) more)) →
      g'.faults ≡ g.faults → AreGathered fs (rs ++ more) g'
  reads_added g' more put same = record {
    faults = λ q. ap (λ faults. faults_at faults q) same ∙ are.faults q;
    reads = λ q. put q ∙ ap (λ b. b || list_any (bytes_eq q) more) (are.reads q) ∙ sym (list_any-append (bytes_eq q) rs more);
  }
