use Rattle.std.proofs.Common.{ℕ, List, [], ◌∷◌, ◌++◌, ap, ◌∙◌, string_bytes}
use Rattle.decl_elements.specs.Shown.{Shown, node_of}
use Rattle.element_table.specs.TypeTable.{TypeTable}
use Rattle.type_elements.specs.TypeOf.{type_of}
use Rattle.unit_listing.specs.Listing.{indent, name_word, type_words}
use Rattle.unit_listing.specs.Words.{kind_word, modifier_words, spaced}
use Rattle.unit_listing.proofs.Lines.{line-written}
use Rattle.unit_listing.proofs.listing.add_line.Goals as goal

pub returns-clause-text : goal.returns-clause-text
unfolding lib.Utf8.encode
returns-clause-text c =
    let table = c.args.resolver.now in
    let at = c.args.at.now in
    let node = node_of c.args.place in
    let old = string_bytes c.args.text.now in
    let one = string_bytes c.add_indent.new.text in
    let two = string_bytes c.push_str.new.self in
    let three = string_bytes c.add_modifiers.new.text in
    let four = string_bytes c.add_name.new.text in
    line-written table at node old one two three four (string_bytes c.add_type_words.new.text) (string_bytes c.push.new.self)
    (c.in_ok-add_indent.ensures ∙ ap (λ (path : List ℕ). old ++ indent path) c.as_slice.ensures)
    (c.in_ok-push_str.ensures.bytes ∙ ap (λ (word : List ℕ). one ++ word) (c.kind_word.ensures ∙ ap kind_word c.element-element.ensures))
    (c.in_ok-add_modifiers.ensures ∙ ap (λ (bits : ℕ). two ++ spaced (modifier_words bits)) c.modifiers.ensures)
    (c.in_ok-add_name.ensures ∙ ap (λ (t : TypeTable). three ++ spaced (name_word t at node ∷ [])) c.table.ensures)
    (c.in_ok-add_type_words.ensures.text ∙ ap (λ (element : Shown). four ++ spaced (type_words table (type_of table at) element)) c.element-element.ensures)
    c.in_ok-push.ensures.bytes
