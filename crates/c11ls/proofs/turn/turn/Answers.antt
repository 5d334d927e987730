use Rattle.std.proofs.Common.{◌≡◌, ℕ, List, Option, subst}
use Rattle.io_edges.specs.Store.{Entry}
use Rattle.io_edges.specs.Wire.{Traffic}
use Rattle.c_session.specs.Handled.{Handled}
use Rattle.c_session.specs.State.{State}
use Rattle.c11ls.specs.Ties.Turn.{SentFront, WroteFront}
use Rattle.c11ls.proofs.turn.turn.Goals as goal

front_written : (s s' : State) (content bytes given : List ℕ) (end : Option ℕ) (w w' : Option Traffic) (a a' : Option (List Entry)) →
    Handled s content s' bytes end a a' → given ≡ bytes → SentFront w w' given → WroteFront s content w w' a a'
front_written s s' content bytes given end w w' a a' handled is sent = record {
  state = s';
  bytes = bytes;
  end = end;
  handled = handled;
  sent = subst (λ (b : List ℕ). SentFront w w' b) is sent;
}

pub returns-in-Err-clause-turned : goal.returns-in-Err-clause-turned
returns-in-Err-clause-turned g c = front_written _ _ _ _ _ _ _ _ _ _ c.in-Ok.ensures.handled c.as_slice.ensures c.in-Err.ensures.front
