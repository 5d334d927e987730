use Rattle.std.proofs.Common.{◌≡◌, ◌+◌, ℕ, List, None, Some, cond, sym, ap, subst, ◌∙◌}
use Rattle.doc_texts.specs.Prior.{Prior}
use Rattle.doc_texts.specs.Texts.{Texts}
use Rattle.plain_mean.specs.Changing.{Changing}
use Rattle.plain_mean.specs.Meanings.{meaning}
use Rattle.plain_mean.specs.Renewed.{IsGrounds, are_gone}
use Rattle.plain_mean.specs.declared.types.Grounds.{Grounds}
use Rattle.project_conf.specs.declared.conf.Conf.{Conf}
use Rattle.c_session.specs.Ties.News.{IsPrior}
use Rattle.c_session.proofs.Anewing.{anewing_starts, anewing_turns, anewing_made, anewing_counted}
use Rattle.c_session.proofs.Before.{text_before_is, were_lexed}
use Rattle.c_session.proofs.Passing.{none_left}
use Rattle.c_session.proofs.renaming.over_edited.Goals as goal

pub of-requires-2 : goal.of-requires-2
of-requires-2 g c = were_lexed c.args.docs.now c.args.edited.now c.in_ok-prior.prior c.in_ok-prior.ensures c.new.result (c.new.ensures c.args.docs.now)

pub turn-init : goal.turn-init
turn-init g c = record {
  anew = anewing_starts c.args.docs.now c.args.edited.now c.args.conf.now c.args.kept.now.units.items c.args.steps.now c.as_slice-rest.result.now c.as_slice-resting.result.now c.args.kept.now.grounds.items
      c.new-all.result.items c.as_slice-rest.ensures.value c.as_slice-resting.ensures.value c.requires.kept.units c.requires.kept.grounds c.new-all.ensures.items;
  since = subst (λ (p : Prior). IsPrior c.args.docs.now p c.args.edited.now) (sym c.in_ok-changes.ensures.prior) c.in_ok-prior.ensures;
  now = c.in_ok-changes.ensures.now;
  lexings = c.in_ok-changes.ensures.lexings;
}

pub occs_anew-requires : goal.occs_anew-requires
occs_anew-requires g c = c.turn.invariant.lexings ∙ sym c.turn.invariant.now

pub turn-preserved : goal.turn-preserved
turn-preserved g c =
    let docs = c.args.docs.now in
    let edited = c.args.edited.now in
    let conf = c.args.conf.now in
    let prior = c.turn.changes.prior in
    let u = c.in-Some.unit.now in
    let rests = c.in-Some-split_first.grounds.now in
    let holds = λ (unit : List ℕ) (grounds : Grounds) (rest : IsGrounds docs conf unit grounds). c.grounds_hold.ensures prior docs edited conf conf unit grounds (text_before_is docs edited prior c.turn.invariant.since) rest in
    record {
      anew = anewing_turns docs edited conf c.args.kept.now.units.items c.args.steps.now prior holds c.turn.rest.now c.in-Some.behind.now u c.turn.resting.now c.in-Some-split_first.more.now rests
          c.turn.all.items c.push.new.self.items c.in_ok-one.one c.turn.steps c.occs_anew.new.steps c.turn.invariant.anew c.in-Some.ensures.cases.0 c.in-Some-split_first.ensures.cases.0
          (subst (λ (r : Conf). c.in_ok-one.one ≡ cond (are_gone prior edited r u.path rests) (Some (meaning edited r u.path).meaning.occs) None) c.in_ok-reading.ensures
          (subst (λ (t : Texts). c.in_ok-one.one ≡ cond (are_gone prior t c.in_ok-reading.reading u.path rests) (Some (meaning t c.in_ok-reading.reading u.path).meaning.occs) None) c.turn.invariant.now c.in_ok-one.ensures.occs))
          c.in_ok-push.ensures.items
          (subst (λ (r : Conf). c.occs_anew.new.steps ≡ c.turn.steps + cond (are_gone prior edited r u.path rests) 1 0) c.in_ok-reading.ensures
          (subst (λ (t : Texts). c.occs_anew.new.steps ≡ c.turn.steps + cond (are_gone prior t c.in_ok-reading.reading u.path rests) 1 0) c.turn.invariant.now c.in_ok-one.ensures.steps));
      since = subst (λ (ch : Changing). IsPrior docs ch.prior edited) (sym c.in_ok-one.ensures.changes) c.turn.invariant.since;
      now = ap (λ (ch : Changing). ch.now) c.in_ok-one.ensures.changes ∙ c.turn.invariant.now;
      lexings = c.in_ok-one.ensures.lexings ∙ c.turn.invariant.lexings;
    }

pub returns-clause-occs : goal.returns-clause-occs
returns-clause-occs g c = anewing_made c.args.docs.now c.args.edited.now c.args.conf.now c.args.kept.now.units.items c.args.steps.now _ _ _ _ c.turn.invariant.anew (none_left _ c.in_default.ensures.cases)

pub returns-clause-steps : goal.returns-clause-steps
returns-clause-steps g c = anewing_counted c.args.docs.now c.args.edited.now c.args.conf.now c.args.kept.now.units.items c.args.steps.now _ _ _ _ c.requires.kept.units c.requires.units c.turn.invariant.anew
    (none_left _ c.in_default.ensures.cases)
