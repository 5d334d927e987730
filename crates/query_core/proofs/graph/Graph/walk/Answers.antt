use Rattle.std.proofs.Common.{subst, sym, ap, ◌∙◌, ◌≡◌, append-nil, ◌≤◌, ◌+◌, length, ◌++◌, ◌∷◌, []}
use Rattle.std.proofs.lemmas.List.{nil_from_length}
use Rattle.query_core.specs.Soundness.{IsSound}
use Rattle.query_core.specs.Changes.{ran}
use Rattle.query_core.specs.Walk.{IsStep}
use Rattle.query_core.proofs.Ending.{walk_begins, waits_on, waits_less, given_up, goes_on, goes_on_less, ends_walked, ends_counted, ends_holding, waits_counted, on_err}
use Rattle.query_core.proofs.graph.Graph.walk.Goals as goal

pub steps-init : goal.steps-init
steps-init g c = record {
  walk = rw c.new-path.ensures.items
      (walk_begins g.R.Rules.queries g.R.Rules.has_read c.args.self.now c.args.key c.begin-top.result.key c.args.steps.now (subst (IsSound g.R.Rules.queries) c.self.view_is c.self.invariant.sound) c.requires.unswept c.begin-top.ensures.key);
  fresh = c.requires.fresh;
  frame = c.begin-top.ensures.frame;
}

pub returns-in_err-moved-clause-walked : goal.returns-in_err-moved-clause-walked
returns-in_err-moved-clause-walked g c =
    given_up g.R.Rules.queries g.R.Rules.has_read g.met.R.Rules.lawful c.args.self.now c.args.key c.steps.self c.steps.top.key c.steps.path.items c.args.steps.now c.steps.steps c.steps.invariant.walk c.advance.new.self c.in_err-moved.ensures.err.0

pub returns-in_err-reserve-in-Waits-clause-walked : goal.returns-in_err-reserve-in-Waits-clause-walked
returns-in_err-reserve-in-Waits-clause-walked g c =
    given_up g.R.Rules.queries g.R.Rules.has_read g.met.R.Rules.lawful c.args.self.now c.args.key c.steps.self c.steps.top.key c.steps.path.items c.args.steps.now c.steps.steps c.steps.invariant.walk c.advance.new.self (subst (IsStep g.R.Rules.queries g.R.Rules.has_read c.steps.self c.advance.new.self c.steps.top.key c.steps.steps c.advance.new.steps) c.in-Waits.is c.in_ok-moved.ensures.ok).0

pub returns-in_err-reserve-in-Waits-clause-err : goal.returns-in_err-reserve-in-Waits-clause-err
returns-in_err-reserve-in-Waits-clause-err g c =
    on_err c.from_residual-in_err-reserve-in-Waits.result ((c.args.steps.now + length (ran c.args.self.now c.advance.new.self) ≤ c.advance.new.steps) × (c.advance.new.steps ≤ c.args.steps.now + length (ran c.args.self.now c.advance.new.self) + 1))
    (waits_counted g.R.Rules.queries g.R.Rules.has_read g.met.R.Rules.lawful c.args.self.now c.args.key c.steps.self c.steps.top.key c.steps.path.items c.args.steps.now c.steps.steps c.steps.invariant.walk c.advance.new.self c.advance.new.steps c.in-Waits.frame c.in-Waits.on c.in-Waits.at_node (subst (IsStep g.R.Rules.queries g.R.Rules.has_read c.steps.self c.advance.new.self c.steps.top.key c.steps.steps c.advance.new.steps) c.in-Waits.is c.in_ok-moved.ensures.ok))

pub steps-smaller-in-Waits : goal.steps-smaller-in-Waits
steps-smaller-in-Waits g c =
    waits_less g.R.Rules.queries g.R.Rules.has_read g.met.R.Rules.lawful c.args.self.now c.args.key c.steps.self c.steps.top.key c.steps.path.items c.args.steps.now c.steps.steps c.steps.invariant.walk c.advance.new.self c.advance.new.steps c.in-Waits.frame c.in-Waits.on c.in-Waits.at_node c.begin-top-in-Waits.result (subst (IsStep g.R.Rules.queries g.R.Rules.has_read c.steps.self c.advance.new.self c.steps.top.key c.steps.steps c.advance.new.steps) c.in-Waits.is c.in_ok-moved.ensures.ok) c.begin-top-in-Waits.ensures.key

pub steps-preserved-in-Waits : goal.steps-preserved-in-Waits
steps-preserved-in-Waits g c =
    record {
      walk = waits_on g.R.Rules.queries g.R.Rules.has_read g.met.R.Rules.lawful c.args.self.now c.args.key c.steps.self c.steps.top.key c.steps.path.items c.args.steps.now c.steps.steps c.steps.invariant.walk c.advance.new.self c.advance.new.steps c.in-Waits.frame c.in-Waits.on c.in-Waits.at_node c.push_reserved.new.self.items c.begin-top-in-Waits.result (subst (IsStep g.R.Rules.queries g.R.Rules.has_read c.steps.self c.advance.new.self c.steps.top.key c.steps.steps c.advance.new.steps) c.in-Waits.is c.in_ok-moved.ensures.ok)
          (c.push_reserved.ensures.items ∙ ap (λ l. l ++ c.in-Waits.frame ∷ []) c.in_ok-reserve-in-Waits.ensures.items) c.begin-top-in-Waits.ensures.key;
      fresh = subst (λ o. o.demanded_at ≡ o.revision) (sym (subst (IsStep g.R.Rules.queries g.R.Rules.has_read c.steps.self c.advance.new.self c.steps.top.key c.steps.steps c.advance.new.steps) c.in-Waits.is c.in_ok-moved.ensures.ok).0) c.steps.invariant.fresh;
      frame = c.begin-top-in-Waits.ensures.frame;
    }

pub steps-smaller : goal.steps-smaller
steps-smaller g c =
    goes_on_less g.R.Rules.queries g.R.Rules.has_read g.met.R.Rules.lawful c.args.self.now c.args.key c.steps.self c.steps.top.key c.steps.path.items c.args.steps.now c.steps.steps c.steps.invariant.walk c.advance.new.self c.in-Done.index c.advance.new.steps c.steps.invariant.frame.stale (subst (IsStep g.R.Rules.queries g.R.Rules.has_read c.steps.self c.advance.new.self c.steps.top.key c.steps.steps c.advance.new.steps) c.in-Done.is c.in_ok-moved.ensures.ok) c.in-Some.frame c.pop.new.self.items c.in-Some.ensures.items

pub steps-preserved : goal.steps-preserved
steps-preserved g c =
    let h = goes_on g.R.Rules.queries g.R.Rules.has_read g.met.R.Rules.lawful c.args.self.now c.args.key c.steps.self c.steps.top.key c.steps.path.items c.args.steps.now c.steps.steps c.steps.invariant.walk c.advance.new.self c.in-Done.index c.advance.new.steps c.steps.invariant.frame.stale (subst (IsStep g.R.Rules.queries g.R.Rules.has_read c.steps.self c.advance.new.self c.steps.top.key c.steps.steps c.advance.new.steps) c.in-Done.is c.in_ok-moved.ensures.ok) c.in-Some.frame c.pop.new.self.items c.in-Some.ensures.items in let f = (subst (IsStep g.R.Rules.queries g.R.Rules.has_read c.steps.self c.advance.new.self c.steps.top.key c.steps.steps c.advance.new.steps) c.in-Done.is c.in_ok-moved.ensures.ok).0 in record { walk = h.0; fresh = f.demanded_at ∙ c.steps.invariant.fresh ∙ sym f.puts.revision; frame = h.1 }

pub returns-in-None-clause-walked : goal.returns-in-None-clause-walked
returns-in-None-clause-walked g c =
    ends_walked g.R.Rules.queries g.R.Rules.has_read g.met.R.Rules.lawful c.args.self.now c.args.key c.steps.self c.steps.top.key c.steps.path.items c.args.steps.now c.steps.steps c.steps.invariant.walk c.advance.new.self c.in-Done.index c.advance.new.steps c.steps.invariant.frame.stale (subst (IsStep g.R.Rules.queries g.R.Rules.has_read c.steps.self c.advance.new.self c.steps.top.key c.steps.steps c.advance.new.steps) c.in-Done.is c.in_ok-moved.ensures.ok)

pub returns-in-None-clause-ok : goal.returns-in-None-clause-ok
returns-in-None-clause-ok g c =
    (ends_holding g.R.Rules.queries g.R.Rules.has_read g.met.R.Rules.lawful c.args.self.now c.args.key c.steps.self c.steps.top.key c.steps.path.items c.args.steps.now c.steps.steps c.steps.invariant.walk c.advance.new.self c.in-Done.index c.advance.new.steps c.steps.invariant.frame.stale (subst (IsStep g.R.Rules.queries g.R.Rules.has_read c.steps.self c.advance.new.self c.steps.top.key c.steps.steps c.advance.new.steps) c.in-Done.is c.in_ok-moved.ensures.ok) (c.in-None.ensures.items ∙ append-nil c.pop.new.self.items ∙ nil_from_length c.pop.new.self.items (sym c.pop.new.self.ok.0 ∙ c.in-None.ensures.cases.1)), ends_counted g.R.Rules.queries g.R.Rules.has_read g.met.R.Rules.lawful c.args.self.now c.args.key c.steps.self c.steps.top.key c.steps.path.items c.args.steps.now c.steps.steps c.steps.invariant.walk c.advance.new.self c.in-Done.index c.advance.new.steps c.steps.invariant.frame.stale (subst (IsStep g.R.Rules.queries g.R.Rules.has_read c.steps.self c.advance.new.self c.steps.top.key c.steps.steps c.advance.new.steps) c.in-Done.is c.in_ok-moved.ensures.ok))
