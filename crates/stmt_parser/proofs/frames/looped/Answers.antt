use Rattle.stmt_parser.proofs.FramesRead.{looped_settles}
use Rattle.stmt_parser.proofs.frames.looped.Goals as goal

pub returns-in-Ok-turned : goal.returns-in-Ok-turned
returns-in-Ok-turned c = record {
  settled =
      λ w a h.
      looped_settles
      c.requires.law
      w
      a
      _
      _
      _
      h
      _
      _
      c.in-Ok.ensures.found
      _
      (c.in-Ok-turned.ensures _);
  forth = c.in-Ok.ensures.forth;
  fails = tt;
}
