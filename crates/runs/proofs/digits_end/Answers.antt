-- The chain takes the run's digits.
use Rattle.std.proofs.Common.{◌≡◌, length, drop, arith, rules}
use Rattle.std.specs.Char.{is_ascii_digit}
use Rattle.std.specs.List.{take_while}
use Rattle.std.proofs.lemmas.Iterator.{YieldsList-from_slice}
use Rattle.std.proofs.lemmas.Iterator.Search.{YieldsList-from_take_while}
use Rattle.std.proofs.lemmas.Iterator.Consumers.{count_from_yields_List}
use Rattle.std.proofs.lemmas.List.Folds.{length-prefix_len}
use Rattle.runs.proofs.Prefix.{prefix_digits}
use Rattle.runs.proofs.digits_end.Goals as goal

pub returns : goal.returns
returns c =
    let left = drop c.args.at c.args.s.now in
    let taken : c.count.result ≡ length (take_while is_ascii_digit left) = count_from_yields_List c.take_while.result c.count.result c.count.ensures.ran (YieldsList-from_take_while _ is_ascii_digit (YieldsList-from_slice left cc) (cc) (cc) (λ x b q k. search rules)) in
    omega (arith, length-prefix_len is_ascii_digit left, prefix_digits left)
