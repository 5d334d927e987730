use Rattle.std.proofs.Common.{map, string_bytes}
use Rattle.c_session.specs.Diagnostics.{diagnostic}
use Rattle.c_session.proofs.Publishing.{published}
use Rattle.c_session.proofs.diagnostics.push_diagnostics_of.Goals as goal

pub returns : goal.returns
returns c =
    let written = published c.args.showing.uri.now c.args.showing.version (map (diagnostic c.args.showing.text.now c.args.encoding) c.args.showing.faults.now) (string_bytes c.in_ok-text.text) c.in_ok-text.ensures in
    cc (c.in_ok-push_framed.ensures, c.as_str.ensures.value)
