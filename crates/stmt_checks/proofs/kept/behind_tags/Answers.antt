use Rattle.std.proofs.Common.{◌≡◌, sym, subst, length, rules}
use Rattle.std.proofs.lemmas.List.{nil_from_length}
use Rattle.std.specs.Vec.Iter.{into_iter_items}
use Rattle.stmt_checks.proofs.Folds.{goes_left, goes_on}
use Rattle.stmt_checks.proofs.Owned.{own_ends}
use Rattle.stmt_checks.proofs.Taking.{all_added, is_taking}
use Rattle.stmt_checks.proofs.kept.behind_tags.Goals as goal
use Rattle.stmt_checks.specs.Firm.{AreTagged}
use Rattle.stmt_checks.specs.Owning.{IsOwn}
use Rattle.stmt_checks.specs.declared.kept.Read.{Read}

pub own_all-requires-clause-taking : goal.own_all-requires-clause-taking
own_all-requires-clause-taking c =
    let f = c.args.folding in
    let left = c.left_over-left.result in
    let tagged : AreTagged f.heads.items c.deref.result.now = subst (λ ts. AreTagged f.heads.items ts) (sym c.deref.ensures.value) c.requires.tags in
    is_taking c.args.tokens.now f c.args.items.now left.1 c.in_ok-names.names c.in_ok-names.changed c.new.result.items (into_iter_items left.0.parts) (into_iter_items left.0.heads)
    (into_iter_items left.0.bodies) c.new.ensures.items c.requires.known (c.in_ok-names.ensures.read f.heads.items c.requires.known)
    (c.left_over-left.ensures.left f.heads.items tagged)

pub fold-requires-clause-known : goal.fold-requires-clause-known
fold-requires-clause-known c =
    let f = c.args.folding in
    let left = c.left_over-left.result in
    let tagged : AreTagged f.heads.items c.deref.result.now = subst (λ ts. AreTagged f.heads.items ts) (sym c.deref.ensures.value) c.requires.tags in
    (all_added c.args.tokens.now f c.own_all.new.owned.folding c.args.items.now c.in_ok-rest.rest.now left.1 c.in_ok-names.names c.in_ok-names.changed c.new.result.items c.own_all.new.owned.parts.items (into_iter_items left.0.parts)
    (into_iter_items left.0.heads) (into_iter_items left.0.bodies) c.new.ensures.items c.requires.known (c.in_ok-names.ensures.read f.heads.items c.requires.known)
    (c.left_over-left.ensures.left f.heads.items tagged) c.in_ok-rest.ensures).goes.known

pub returns-then-not-is_empty-clause-goes : goal.returns-then-not-is_empty-clause-goes
returns-then-not-is_empty-clause-goes c =
    let f = c.args.folding in
    let left = c.left_over-left.result in
    let tagged : AreTagged f.heads.items c.deref.result.now = subst (λ ts. AreTagged f.heads.items ts) (sym c.deref.ensures.value) c.requires.tags in
    goes_on (all_added c.args.tokens.now f c.own_all.new.owned.folding c.args.items.now c.in_ok-rest.rest.now left.1 c.in_ok-names.names c.in_ok-names.changed c.new.result.items c.own_all.new.owned.parts.items (into_iter_items left.0.parts)
    (into_iter_items left.0.heads) (into_iter_items left.0.bodies) c.new.ensures.items c.requires.known (c.in_ok-names.ensures.read f.heads.items c.requires.known)
    (c.left_over-left.ensures.left f.heads.items tagged) c.in_ok-rest.ensures).goes c.in_ok-folding.ensures

pub returns-clause-goes : goal.returns-clause-goes
returns-clause-goes c =
    let f = c.args.folding in
    let left = c.left_over-left.result in
    let tagged : AreTagged f.heads.items c.deref.result.now = subst (λ ts. AreTagged f.heads.items ts) (sym c.deref.ensures.value) c.requires.tags in
    let none : length c.in_ok-rest.rest.now ≡ 0 = search rules in
    goes_left (all_added c.args.tokens.now f c.own_all.new.owned.folding c.args.items.now c.in_ok-rest.rest.now left.1 c.in_ok-names.names c.in_ok-names.changed c.new.result.items c.own_all.new.owned.parts.items (into_iter_items left.0.parts)
    (into_iter_items left.0.heads) (into_iter_items left.0.bodies) c.new.ensures.items c.requires.known (c.in_ok-names.ensures.read f.heads.items c.requires.known)
    (c.left_over-left.ensures.left f.heads.items tagged) c.in_ok-rest.ensures).goes (nil_from_length c.in_ok-rest.rest.now none)

pub returns-clause-own : goal.returns-clause-own
returns-clause-own c =
    let f = c.args.folding in
    let left = c.left_over-left.result in
    let tagged : AreTagged f.heads.items c.deref.result.now = subst (λ ts. AreTagged f.heads.items ts) (sym c.deref.ensures.value) c.requires.tags in
    let read : Read = record { names = c.in_ok-names.names; tags = c.args.tags; alone = c.is_empty-alone.result } in
    subst (λ ps. IsOwn f c.own_all.new.owned.folding ps read) (sym c.shrink_to_fit.ensures.items)
    (own_ends c.args.tokens.now f c.own_all.new.owned.folding c.own_all.new.owned.parts.items c.args.items.now c.in_ok-rest.rest.now left.1 c.in_ok-names.changed read
    (all_added c.args.tokens.now f c.own_all.new.owned.folding c.args.items.now c.in_ok-rest.rest.now left.1 c.in_ok-names.names c.in_ok-names.changed c.new.result.items c.own_all.new.owned.parts.items (into_iter_items left.0.parts)
    (into_iter_items left.0.heads) (into_iter_items left.0.bodies) c.new.ensures.items c.requires.known (c.in_ok-names.ensures.read f.heads.items c.requires.known)
    (c.left_over-left.ensures.left f.heads.items tagged) c.in_ok-rest.ensures) c.requires.tags c.in_ok-names.ensures.nothing)
