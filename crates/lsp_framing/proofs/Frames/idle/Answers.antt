use Rattle.std.proofs.Common.{rules, ◌≡◌, ◌∙◌, sym, ap, IsTrue, nat_eq, length, drop, subst, ℕ}
use Rattle.lsp_framing.proofs.Answering.{all_given}
use Rattle.lsp_framing.proofs.Follow.{follows_idle}
use Rattle.lsp_framing.proofs.Frames.idle.Goals as goal

pub returns-clause-idle : goal.returns-clause-idle
returns-clause-idle c = λ fed given f.
    let items = c.self.inside.bytes.items in
    let start = c.self.inside.start in
    let bytes : drop start items ≡ c.args.self.now.bytes = ap (λ t. t.bytes) c.self.view_is in
    let given_all = all_given items start c.self.invariant.0 in
    let n : c.len.result ≡ length items = search rules in
    let idle = follows_idle fed given c.args.self.now f in
    let IsEnd : ℕ → Type 0 = λ n. IsTrue (nat_eq start n) in (
      λ t. idle.0 (sym bytes ∙ given_all.0 (subst IsEnd n t)),
      λ p. subst IsEnd (sym n) (given_all.1 (bytes ∙ idle.1 p)),
    )
