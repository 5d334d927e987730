use Rattle.c_tokens.proofs.OrderLemmas.{grows_by, whole_piece}
use Rattle.c_tokens.proofs.lexing.add_token.Goals as goal

pub returns-clause-place_order : goal.returns-clause-place_order
returns-clause-place_order c =
    grows_by c.args.text.now c.args.piece c.args.piece.own c.args.piece.front.end c.args.found.now.places.items c.push-2.new.self.items (whole_piece c.args.text.now c.args.piece c.requires.piece) c.in_ok-push-2.ensures.items
