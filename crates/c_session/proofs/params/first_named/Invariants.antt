use Rattle.std.proofs.Common.{◌≡◌, map, drop}
use Rattle.serde_json.specs.View.{view}
use Rattle.c_session.specs.Params.{first_named}
use Rattle.c_session.proofs.params.first_named.Given as goal

abbrev pub invariant-loop-offer : goal.invariant-loop-offer
invariant-loop-offer l = first_named (map view l.offers) ≡ first_named (map view (drop l.offer-index l.offers))
