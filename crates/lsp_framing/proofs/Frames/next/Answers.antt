use Rattle.std.proofs.Common.{◌≡◌, ℕ, ◌+◌, sym, ap, subst}
use Rattle.lsp_framing.specs.Standing.{Standing, Follows}
use Rattle.lsp_framing.specs.Frames.{frames, Bad}
use Rattle.lsp_framing.proofs.Answering.{next_gives, next_open, next_wanted}
use Rattle.lsp_framing.proofs.Follow.{follows_open, follows_fault, unfinished_header}
use Rattle.lsp_framing.proofs.Frames.next.Goals as goal

pub returns-in-Header-clause-open : goal.returns-in-Header-clause-open
returns-in-Header-clause-open c = λ fed given f.
    let P : Standing → Type 0 = λ t. Follows fed given t in
    follows_open fed given c.read_on.new.self (subst P (sym c.in-Header.ensures.unchanged) f)
    (unfinished_header _ _ _ _ c.in-Header.ensures.known c.in-Header.ensures.settled)

pub returns-in-Content-clause-content : goal.returns-in-Content-clause-content
returns-in-Content-clause-content c =
    next_gives c.args.self.now c.read_on.new.self c.next_content.new.self c.in-Content.ensures.unchanged _ _ c.in-Content.ensures.known
    c.next_content.result c.next_content.ensures.content c.next_content.ensures.whole c.next_content.ensures.next

pub returns-in-Content-clause-open : goal.returns-in-Content-clause-open
returns-in-Content-clause-open c =
    next_open c.args.self.now c.read_on.new.self c.next_content.new.self c.in-Content.ensures.unchanged _ _ c.in-Content.ensures.known
    c.next_content.result c.next_content.ensures.open

pub returns-in-Content-clause-wanted : goal.returns-in-Content-clause-wanted
returns-in-Content-clause-wanted c =
    next_wanted c.args.self.now c.read_on.new.self c.next_content.new.self c.in-Content.ensures.unchanged _ _ c.in-Content.ensures.known
    c.next_content.result c.next_content.ensures.memory

pub returns-in-Faulty-clause-fault : goal.returns-in-Faulty-clause-fault
returns-in-Faulty-clause-fault c = λ fed given f.
    let P : Standing → Type 0 = λ t. Follows fed given t in
    let here = follows_fault fed given _ _ c.read_on.new.self (subst P (sym c.in-Faulty.ensures.unchanged) f) c.in-Faulty.ensures.known in
    let Q : ℕ → Type 0 = λ n. (frames fed).rest ≡ Bad (n + c.in-Faulty.at) c.in-Faulty.kind in
    (here.0, subst Q (sym (ap (λ t. t.place) c.self.view_is)) here.1)
