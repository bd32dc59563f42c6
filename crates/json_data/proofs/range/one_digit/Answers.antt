use Rattle.std.proofs.Common.{arith}
use Rattle.json_data.proofs.Digits.{of_one}
use Rattle.json_data.proofs.range.one_digit.Goals as goal

pub returns-in-48-to-57 : goal.returns-in-48-to-57
returns-in-48-to-57 c =
    of_one c.args.bytes.now c.if-bytes-ne1.false (omega arith) (omega arith)
