use Rattle.std.proofs.Common.{◌∙◌, string_bytes}
use Rattle.type_texts.specs.Print.{text_of}
use Rattle.type_texts.proofs.ListedTexts.{listed-step}
use Rattle.unit_listing.proofs.type_words.add_types.Goals as goal

pub loop-each-preserved : goal.loop-each-preserved
loop-each-preserved c =
    listed-step (text_of c.args.table.now) c.args.types.now c.loop-each.each-index c.each-item.result c.loop-each.is_first (string_bytes c.loop-each.text) (string_bytes c.add_comma.new.text)
    (string_bytes c.add_type.new.text) c.loop-each-test.true c.each-item.is c.in_ok-add_comma.ensures c.in_ok-add_type.ensures
    ∙ c.loop-each.invariant
