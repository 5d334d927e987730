use Rattle.std.proofs.Common.{◌≡◌, ◌++◌, false, length, map, string_bytes}
use Rattle.serde_json.specs.View.{items_of}
use Rattle.serde_json.specs.Written.{items_text}
use Rattle.plain_mean.specs.Within.{AreWithin}
use Rattle.c_session.specs.Diagnostics.{diagnostic}
use Rattle.c_session.proofs.diagnostics.push_diagnostics.Given as goal

abbrev pub invariant-faults : goal.invariant-faults
invariant-faults l = record {
  made : string_bytes l.body ++ items_text l.later (items_of (map (diagnostic l.fn.walk.text l.fn.walk.encoding) l.rest))
      ≡ string_bytes l.fn.body ++ items_text false (items_of (map (diagnostic l.fn.walk.text l.fn.walk.encoding) l.fn.faults));
  within : AreWithin (length l.fn.walk.text) l.rest;
  same : l.walk ≡ l.fn.walk;
}

abbrev pub decreases-faults : goal.decreases-faults
decreases-faults l = length l.rest
