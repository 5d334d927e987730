use Rattle.std.proofs.Common.{rules, ◌≡◌, ap, ◌∙◌, ℕ, Option}
use Rattle.std.specs.HashMap.{get}
use Rattle.std.specs.Prelude.{None}
use Rattle.tok_data.specs.contracts.sources.TokIdPartialEq.TheImpl as toks
use Rattle.macro_expand.proofs.SiteLemmas.{line_or, line_or_none, line_more}
use Rattle.macro_expand.proofs.lines.Lines.of.Goals as goal

pub sites-init : goal.sites-init
sites-init c = λ site.
    let empty : get toks.eq-value.it c.new-found.result site ≡ None = search rules in
    ap (λ (o : Option ℕ). line_or c.args.list.now o site) empty ∙ line_or_none c.args.list.now site

pub sites-preserved : goal.sites-preserved
sites-preserved c = λ site.
    line_more c.sites.front.now c.in-Some.before.now c.in-Some.last.now c.in_ok-site.site site
    (get toks.eq-value.it c.sites.found site) (get toks.eq-value.it c.insert.new.self site)
    c.in-Some.ensures.cases.0 c.in_ok-site.ensures (c.in_ok-insert.ensures.updates.0 site)
    ∙ c.sites.invariant site
