use Rattle.std.proofs.Common.{◌≡◌, take}
use Rattle.elab_state.proofs.asked.shared.Given as goal

abbrev pub invariant-all : goal.invariant-all
invariant-all l = l.list.items ≡ take l.one-index l.all
