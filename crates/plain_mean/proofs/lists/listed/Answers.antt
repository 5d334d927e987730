use Rattle.std.proofs.Common.{length, if◌then◌else◌, ap, bytes_eq, refl, subst, ◌∙◌, sym}
use Rattle.std.specs.List.{list_any}
use Rattle.doc_texts.specs.Texts.{text_at}
use Rattle.plain_mean.specs.Given.{text_in}
use Rattle.plain_mean.specs.Shown.{of_file}
use Rattle.plain_mean.specs.Gathered.{faults_at}
use Rattle.plain_mean.specs.Marks.{is_marked}
use Rattle.plain_mean.specs.Lists.{shown_in}
use Rattle.plain_mean.specs.Within.{AreWithin}
use Rattle.plain_mean.proofs.Listed.{listed_more, within_more, within_none}
use Rattle.plain_mean.proofs.lists.listed.Goals as goal

pub paths-init : goal.paths-init
paths-init c = record {
  listed = λ q. ap (λ none. if list_any (bytes_eq q) c.args.paths.now then of_file (text_at c.args.lexings.now q) (faults_at c.args.gathered.now.faults q) (is_marked c.args.gathered.now.reads q) else none) (c.new-lists.ensures q);
  within = λ q. within_none (length (text_in c.args.lexings.now q)) (shown_in c.new-lists.result q) (c.new-lists.ensures q);
  same = refl;
}

pub paths-preserved : goal.paths-preserved
paths-preserved c = record {
  listed = λ q. listed_more (λ p. of_file (text_at c.args.lexings.now p) (faults_at c.args.gathered.now.faults p) (is_marked c.args.gathered.now.reads p)) q c.in-Some.path.now c.in-Some.behind.now
      (shown_in c.paths.lists q) (shown_in c.insert.new.self q) _
      (c.in_ok-insert.ensures q ∙ (λ i. if bytes_eq q (c.in_ok-share.ensures i) then (c.in_ok-list.ensures.shown ∙ ap (λ t. of_file (text_at t c.in-Some.path.now) (faults_at c.args.gathered.now.faults c.in-Some.path.now) (is_marked c.args.gathered.now.reads c.in-Some.path.now)) c.paths.invariant.same) i else shown_in c.paths.lists q))
      (ap (λ ps. if list_any (bytes_eq q) ps then of_file (text_at c.args.lexings.now q) (faults_at c.args.gathered.now.faults q) (is_marked c.args.gathered.now.reads q) else shown_in c.paths.lists q) (sym c.in-Some.ensures.cases.0) ∙ c.paths.invariant.listed q);
  within = λ q. within_more c.args.lexings.now q c.in-Some.path.now c.in_ok-list.list (shown_in c.paths.lists q) (shown_in c.insert.new.self q)
      (c.in_ok-insert.ensures q ∙ (λ i. if bytes_eq q (c.in_ok-share.ensures i) then c.in_ok-list.list else shown_in c.paths.lists q))
      (subst (λ t. AreWithin (length (text_in t c.in-Some.path.now)) c.in_ok-list.list) c.paths.invariant.same c.in_ok-list.ensures.within) (c.paths.invariant.within q);
  same = c.in_ok-list.ensures.same ∙ c.paths.invariant.same;
}
