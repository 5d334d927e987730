use Rattle.std.proofs.Common.{◌≡◌, length}
use Rattle.c_session.specs.Ties.News.{IsPrior}
use Rattle.c_session.proofs.Anewing.{IsAnewing}
use Rattle.c_session.proofs.renaming.over_edited.Given as goal

abbrev pub invariant-turn : goal.invariant-turn
invariant-turn g l = record {
  anew : IsAnewing l.docs l.edited l.conf l.kept.units.items l.fn.steps l.rest l.resting l.all.items l.steps;
  since : IsPrior l.docs l.changes.prior l.edited;
  now : l.changes.now ≡ l.edited;
  lexings : l.lexings ≡ l.edited;
}

abbrev pub decreases-turn : goal.decreases-turn
decreases-turn g l = length l.rest
