use Rattle.std.proofs.Common.{sym, subst}
use Rattle.include_units.specs.Stack.{IsRead}
use Rattle.include_units.proofs.Stepping.{comes_done, comes_waits, comes_read}
use Rattle.include_units.proofs.unit.going.Goals as goal

pub returns-in_ok-keep-in-Some-clause-going : goal.returns-in_ok-keep-in-Some-clause-going
returns-in_ok-keep-in-Some-clause-going c =
    comes_waits c.args.files.now c.args.conf.now c.as_slice.result.now c.in_ok-now.now c.read_on.new.reading c.in-Ok.want c.as_slice.ensures (c.in_ok-now.ensures c.args.files.now (subst (λ o. IsRead c.args.conf.now c.args.files.now o) (sym c.take-before.ensures.taken) c.requires.read)) c.in-Ok.ensures
    c.in-Some.want c.in-Ok-needs.wants c.in-Some.is c.in-Ok-needs.ensures

pub returns-in_ok-keep-in-Some-clause-read : goal.returns-in_ok-keep-in-Some-clause-read
returns-in_ok-keep-in-Some-clause-read c =
    subst (λ o. IsRead c.args.conf.now c.args.files.now o) (sym c.in_ok-keep-in-Some.ensures.kept) (
    comes_read c.args.files.now c.args.conf.now c.as_slice.result.now c.in_ok-now.now c.read_on.new.reading c.in-Ok.want c.as_slice.ensures (c.in_ok-now.ensures c.args.files.now (subst (λ o. IsRead c.args.conf.now c.args.files.now o) (sym c.take-before.ensures.taken) c.requires.read)) c.in-Ok.ensures
    c.in-Some.want c.in-Some.is)

pub returns-in-None-clause-going : goal.returns-in-None-clause-going
returns-in-None-clause-going c =
    comes_done c.args.files.now c.args.conf.now c.as_slice.result.now c.in_ok-now.now c.read_on.new.reading c.in-Ok.want c.as_slice.ensures (c.in_ok-now.ensures c.args.files.now (subst (λ o. IsRead c.args.conf.now c.args.files.now o) (sym c.take-before.ensures.taken) c.requires.read)) c.in-Ok.ensures
    c.told-tokens.result c.in-None.is c.told-tokens.ensures
