use Rattle.std.proofs.Common.{map}
use Rattle.c_session.proofs.Plans.{class_is}
use Rattle.c_session.proofs.classed.class_in.Goals as goal

pub returns : goal.returns
returns c =
    class_is (map (λ occs. occs.now) c.args.units.now) c.args.tok.now c.in_ok-class.class
    (c.classes_are_lists.ensures.only (map (λ occs. occs.now) c.args.units.now) c.args.tok.now c.in_ok-class.class.toks c.in_ok-class.ensures.tokens)
    c.in_ok-class.ensures.external c.in_ok-class.ensures.library c.in_ok-class.ensures.pasted c.in_ok-class.ensures.spelled c.in_ok-class.ensures.two
