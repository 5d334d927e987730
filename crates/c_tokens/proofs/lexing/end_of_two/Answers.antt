-- Two characters, one after the other.
use Rattle.std.proofs.Common.{length, ap, arith}
use Rattle.std.proofs.lemmas.List.{length-drop}
use Rattle.c_tokens.specs.Reading.{rest, ahead, IsAfter}
use Rattle.c_tokens.proofs.AfterLemmas.{after_joins, ahead_behind, length_codes_of}
use Rattle.c_tokens.proofs.lexing.end_of_two.Goals as goal

pub returns-clause-after : goal.returns-clause-after
returns-clause-after c =
    let text = c.args.text.now in
    let long = length_codes_of (rest text c.args.at) in
    let first : IsAfter text c.args.at 1 c.look_ahead-first.result.end = c.look_ahead-first.ensures.one (omega (arith, long, c.requires.two)) in
    let behind = ahead_behind text c.args.at 1 c.look_ahead-first.result.end first in
    after_joins text c.args.at 1 c.look_ahead-first.result.end 1 c.look_ahead.result.end first
    (c.look_ahead.ensures.one (omega (arith, long, c.requires.two, ap length behind, length-drop 1 (ahead text c.args.at))))
