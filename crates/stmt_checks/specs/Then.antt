-- What is done with the judgement of an expression: the word of the code for each of them.

use Rattle.type_data.specs.declared.judged.Judged.{Judged}
use Rattle.type_data.specs.Types.{Ty}
use Rattle.stmt_checks.specs.Acting.{dropped, tested, switched, cased, returned}
use Rattle.stmt_checks.specs.declared.steps.Then.{Then}
use Rattle.stmt_checks.specs.declared.steps.Then.TheVariants as then
use Rattle.stmt_checks.specs.Standings.{Standing}

abbrev pub done : Ty → Then → Judged → Standing → Standing
done ty then.Nothing = dropped
done ty (then.If k) = tested 603 k
done ty (then.Loop k) = tested 608 k
done ty (then.Switch k) = switched k
done ty (then.Case k at) = cased k at
done ty (then.Return k) = returned ty k
