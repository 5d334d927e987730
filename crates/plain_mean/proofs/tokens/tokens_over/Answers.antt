use Rattle.std.proofs.Common.{◌≡◌, ◌∙◌, ap, map, subst, refl, rules}
use Rattle.asking.specs.LookUps.{Ends, Needs, look_up, run_by}
use Rattle.include_units.specs.Coming.{question}
use Rattle.include_units.specs.Files.{files}
use Rattle.include_units.specs.Going.{IsGoing}
use Rattle.include_units.specs.Units.{unit_tokens}
use Rattle.plain_mean.specs.Given.{HasTold}
use Rattle.plain_mean.proofs.Told.{asking_begins, asking_ends, asking_turns}
use Rattle.plain_mean.proofs.tokens.tokens_over.Goals as goal

pub asks-init : goal.asks-init
asks-init c = (
  asking_begins c.args.lexings.now c.args.conf.now c.new-asked.result.items c.in_ok-unit.unit.answers c.new-asked.ensures.items (ap (λ u. u.answers) c.in_ok-unit.ensures),
  ap (λ u. u.conf) c.in_ok-unit.ensures,
  refl,
)

pub returns-in-Done-clause-tokens : goal.returns-in-Done-clause-tokens
returns-in-Done-clause-tokens c =
    (asking_ends c.files_are_lawful.ensures c.units_ask_in_order.ensures c.entries_tell.ensures c.args.lexings.now c.args.conf.now c.asks.asked.items c.asks.unit.answers c.asks.invariant.0 c.in-Done.tokens
    (subst (λ u. run_by (look_up files c.asks.unit.answers) (unit_tokens u) ≡ Ends c.in-Done.tokens) c.asks.invariant.1
    (subst (λ g. IsGoing c.asks.unit.conf c.asks.unit.answers g) c.in-Done.is c.in_ok-tokens.ensures.going))).0

pub returns-in-Done-clause-asked : goal.returns-in-Done-clause-asked
returns-in-Done-clause-asked c =
    let is : c.from_vec.result ≡ c.asks.asked.items = search rules in
    ap (map question) is
    ∙ (asking_ends c.files_are_lawful.ensures c.units_ask_in_order.ensures c.entries_tell.ensures c.args.lexings.now c.args.conf.now c.asks.asked.items c.asks.unit.answers c.asks.invariant.0 c.in-Done.tokens
    (subst (λ u. run_by (look_up files c.asks.unit.answers) (unit_tokens u) ≡ Ends c.in-Done.tokens) c.asks.invariant.1
    (subst (λ g. IsGoing c.asks.unit.conf c.asks.unit.answers g) c.in-Done.is c.in_ok-tokens.ensures.going))).1

pub asks-preserved : goal.asks-preserved
asks-preserved c =
    let same : c.go.new.self ≡ c.asks.unit = c.in_ok-tokens.ensures.same in
    let told : HasTold c.args.lexings.now c.asks.unit.answers c.go_on.new.unit.answers (map question c.in-Need.wants) =
    subst (λ t. HasTold t c.asks.unit.answers c.go_on.new.unit.answers (map question c.in-Need.wants)) c.asks.invariant.2
    (subst (λ u. HasTold c.asks.lexings u.answers c.go_on.new.unit.answers (map question c.in-Need.wants)) same c.in_ok-go_on-in-Need.ensures.told) in (
      asking_turns c.files_are_lawful.ensures c.units_ask_in_order.ensures c.entries_tell.ensures c.args.lexings.now c.args.conf.now c.asks.asked.items c.asks.unit.answers c.asks.invariant.0
          c.in-Need.wants c.go_on.new.asked.items c.go_on.new.unit.answers
          (subst (λ u. run_by (look_up files c.asks.unit.answers) (unit_tokens u) ≡ Needs (map question c.in-Need.wants)) c.asks.invariant.1
          (subst (λ g. IsGoing c.asks.unit.conf c.asks.unit.answers g) c.in-Need.is c.in_ok-tokens.ensures.going))
          told c.in_ok-go_on-in-Need.ensures.asked,
      c.in_ok-go_on-in-Need.ensures.conf ∙ ap (λ u. u.conf) same ∙ c.asks.invariant.1,
      c.in_ok-go_on-in-Need.ensures.same ∙ c.asks.invariant.2,
    )
