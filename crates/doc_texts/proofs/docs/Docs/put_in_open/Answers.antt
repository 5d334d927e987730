use Rattle.std.proofs.Common.{arith, ap, ◌∙◌, length}
use Rattle.std.specs.FinMap.{get}
use Rattle.doc_texts.proofs.Found.{open_size_within}
use Rattle.doc_texts.proofs.Limited.{if_some_all, bytes_set_open}
use Rattle.doc_texts.proofs.Placed.{placed_in_open}
use Rattle.doc_texts.proofs.docs.Docs.put_in_open.Goals as goal

pub overflow_sub-bytes : goal.overflow_sub-bytes
overflow_sub-bytes c = let within = open_size_within c.args.self.now c.args.path.now in omega (arith, within, c.open_len.ensures, c.total.ensures.bytes)

pub swap_text-requires : goal.swap_text-requires
swap_text-requires c = if_some_all (get c.args.self.now.opened c.args.path.now) (λ document.
    c.in_ok-bytes.ensures ∙ bytes_set_open c.args.self.now c.args.path.now _ _ _ _ c.total.ensures.bytes c.open_len.ensures (ap length c.as_str.ensures.text))

pub returns : goal.returns
returns c = placed_in_open c.args.self.now _ c.args.path.now c.args.text c.requires c.swap_text.ensures
