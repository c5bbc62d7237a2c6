use Rattle.text.proofs.LinkLaws.{word_found, word_weight, fields_first, fields_second, fields_6, fields_104, fields_7, fields_fine}
use Rattle.std.specs.Prelude.{Some, None, Err}
use Rattle.answers.specs.declared.fault.Fault.TheVariants.{UnknownPart, WeightForm}
use mathlib.Core.Path.{◌≡◌}
use native.Mathlib.Omega.{arith}
use Rattle.text.proofs.read_fields.Goals as goal

pub returns-in_err-a : goal.returns-in_err-a
returns-in_err-a c = λ N h l.
    let none : c.find_name.result ≡ None = grind arith in
    let err : c.from_residual.result ≡ Err UnknownPart = grind arith in
    rw err (fields_first N _ _ _ _ (word_found N _ 1 _ c.find_name.result c.word.ensures.result_value (c.find_name.ensures.first N h l)) none)

pub returns-in_err-b : goal.returns-in_err-b
returns-in_err-b c = λ N h l.
    let some : c.find_name.result ≡ Some c.in_ok-a.a = grind arith in
    let none : c.find_name-2.result ≡ None = grind arith in
    let err : c.from_residual-in_err-b.result ≡ Err UnknownPart = grind arith in
    rw err
    (fields_second N _ _ _ _ (word_found N _ 1 _ c.find_name.result c.word.ensures.result_value (c.find_name.ensures.first N h l)) _ some _
    (word_found N _ 2 _ c.find_name-2.result c.word-2.ensures.result_value (c.find_name-2.ensures.first N h l)) none)

pub returns-then-a-b : goal.returns-then-a-b
returns-then-a-b c = λ N h l.
    let first : c.find_name.result ≡ Some c.in_ok-a.a = grind arith in
    let second : c.find_name-2.result ≡ Some c.in_ok-b.b = grind arith in
    fields_6 N _ _ _ _ (word_found N _ 1 _ c.find_name.result c.word.ensures.result_value (c.find_name.ensures.first N h l)) _ first _
    (word_found N _ 2 _ c.find_name-2.result c.word-2.ensures.result_value (c.find_name-2.ensures.first N h l)) _ second c.if-a-b.true

pub returns-in_err-weight : goal.returns-in_err-weight
returns-in_err-weight c = λ N h l.
    let first : c.find_name.result ≡ Some c.in_ok-a.a = grind arith in
    let second : c.find_name-2.result ≡ Some c.in_ok-b.b = grind arith in
    let none : c.weight_of.result ≡ None = grind arith in
    let err : c.from_residual-in_err-weight.result ≡ Err WeightForm = grind arith in
    rw err
    (fields_104 N _ _ _ _ (word_found N _ 1 _ c.find_name.result c.word.ensures.result_value (c.find_name.ensures.first N h l)) _ first _
    (word_found N _ 2 _ c.find_name-2.result c.word-2.ensures.result_value (c.find_name-2.ensures.first N h l)) _ second c.if-a-b.false _
    (word_weight _ _ c.weight_of.result c.word-3.ensures.result_value c.weight_of.ensures) none)

pub returns-then-weight-eq0 : goal.returns-then-weight-eq0
returns-then-weight-eq0 c = λ N h l.
    let first : c.find_name.result ≡ Some c.in_ok-a.a = grind arith in
    let second : c.find_name-2.result ≡ Some c.in_ok-b.b = grind arith in
    let some : c.weight_of.result ≡ Some c.in_ok-weight.weight = grind arith in
    fields_7 N _ _ _ _ (word_found N _ 1 _ c.find_name.result c.word.ensures.result_value (c.find_name.ensures.first N h l)) _ first _
    (word_found N _ 2 _ c.find_name-2.result c.word-2.ensures.result_value (c.find_name-2.ensures.first N h l)) _ second c.if-a-b.false _
    (word_weight _ _ c.weight_of.result c.word-3.ensures.result_value c.weight_of.ensures) _ some c.if-weight-eq0.true

pub returns : goal.returns
returns c = λ N h l.
    let first : c.find_name.result ≡ Some c.in_ok-a.a = grind arith in
    let second : c.find_name-2.result ≡ Some c.in_ok-b.b = grind arith in
    let some : c.weight_of.result ≡ Some c.in_ok-weight.weight = grind arith in
    fields_fine N _ _ _ _ (word_found N _ 1 _ c.find_name.result c.word.ensures.result_value (c.find_name.ensures.first N h l)) _ first _
    (word_found N _ 2 _ c.find_name-2.result c.word-2.ensures.result_value (c.find_name-2.ensures.first N h l)) _ second c.if-a-b.false _
    (word_weight _ _ c.weight_of.result c.word-3.ensures.result_value c.weight_of.ensures) _ some c.if-weight-eq0.false _
    c.min.ensures c.max.ensures (grind arith)
