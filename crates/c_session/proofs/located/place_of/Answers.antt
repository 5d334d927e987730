use Rattle.std.proofs.Common.{ℕ, ◌≤◌, length, ap, sym, subst, ◌∙◌}
use Rattle.c_tokens.specs.Lexed.{lexed}
use Rattle.plain_mean.specs.Shown.{place_of}
use Rattle.c_session.proofs.Orders.{place_within}
use Rattle.c_session.proofs.located.place_of.Goals as goal

pub returns-clause-place : goal.returns-clause-place
returns-clause-place c = c.place_in.ensures ∙ ap (λ ps. place_of ps c.args.at) (c.as_slice.ensures ∙ ap (λ p. p.places) (c.as_places-places.ensures ∙ c.requires.places))

pub returns-clause-start : goal.returns-clause-start
returns-clause-start c =
    subst (λ (p : ℕ × ℕ). p.0 ≤ length c.args.text.now)
    (sym (c.place_in.ensures ∙ ap (λ ps. place_of ps c.args.at) (c.as_slice.ensures ∙ ap (λ p. p.places) (c.as_places-places.ensures ∙ c.requires.places))))
    (place_within c.args.text.now 0 (length c.args.text.now) (lexed c.args.text.now).places c.args.at c.requires.place_order).0

pub returns-clause-end : goal.returns-clause-end
returns-clause-end c =
    subst (λ (p : ℕ × ℕ). p.1 ≤ length c.args.text.now)
    (sym (c.place_in.ensures ∙ ap (λ ps. place_of ps c.args.at) (c.as_slice.ensures ∙ ap (λ p. p.places) (c.as_places-places.ensures ∙ c.requires.places))))
    (place_within c.args.text.now 0 (length c.args.text.now) (lexed c.args.text.now).places c.args.at c.requires.place_order).1
