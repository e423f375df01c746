-- The text of a doc comment is in UTF-8, and has no more bytes than the comment.
use lib.Utf8.{encode}
use Rattle.std.proofs.Common.{◌≡◌, ◌==◌, ◌&&◌, ℕ, ◌-◌, ◌≤◌, Bool, true, false, cond, List, [], ◌∷◌, ◌++◌, ◌⊎◌, inl, inr, length, take, drop, Option, None, Some, refl, sym, ap, subst, arith, take-append-drop}
use Rattle.std.specs.Option.{option_map_or}
use Rattle.std.specs.Str.{IsUtf8, all_scalars, chars}
use Rattle.std.proofs.lemmas.Bool.{lt-ltb}
use Rattle.std.proofs.lemmas.List.Sums.{sum_by-cons}
use Rattle.std.proofs.lemmas.Str.{is_utf8-from_IsUtf8, encodes-chars, scalars-chars}
use Rattle.apt_base.specs.Forms.{is_name, fits_if_some}
use Rattle.decl_grammar.specs.declared.symbol.Symbol.{Symbol}
use Rattle.decl_grammar.specs.declared.line_place.LinePlace.{LinePlace}
use Rattle.decl_grammar.specs.declared.line_place.LinePlace.TheVariants.{Margin, Asterisks, Inside}
use Rattle.decl_grammar.specs.Docs.{is_blank, with_line_feeds, place_after, kept_at, unmargined, unmarked, doc_text}
use Rattle.decl_grammar.specs.Grammar.{doc_of, first_doc}
use Rattle.decl_grammar.proofs.OneToken.{both}
use Rattle.decl_limits.specs.Texts.{bytes_of, IsDocText, AreTexts}
use Rattle.decl_limits.proofs.LegalTexts.{and-true}
use Rattle.decl_limits.proofs.SmallSymbols.{bytes, some-bytes, both-bytes}

-- ---- characters

pub scalars-front : (cs ds : List ℕ) → all_scalars (cs ++ ds) ≡ true → all_scalars cs ≡ true
scalars-front [] ds e = refl
scalars-front (c ∷ cs) ds e = let p = both _ _ e in and-true p.0 (scalars-front cs ds p.1)

pub scalars-back : (cs ds : List ℕ) → all_scalars (cs ++ ds) ≡ true → all_scalars ds ≡ true
scalars-back [] ds e = e
scalars-back (c ∷ cs) ds e = scalars-back cs ds (both _ _ e).1

-- characters that stand for others: no more bytes
record Kept (cs ds : List ℕ) : Type 0 where
  scalars : all_scalars ds ≡ true
  few : bytes ds ≤ bytes cs

front-kept : (n : ℕ) (cs : List ℕ) → all_scalars cs ≡ true → Kept cs (take n cs)
front-kept n cs e =
    let split = sym (take-append-drop n cs) in
    record {
      scalars = scalars-front (take n cs) (drop n cs) (subst (λ (ds : List ℕ). all_scalars ds ≡ true) split e);
      few = omega (arith, both-bytes cs (take n cs) (drop n cs) split);
    }

back-kept : (n : ℕ) (cs : List ℕ) → all_scalars cs ≡ true → Kept cs (drop n cs)
back-kept n cs e =
    let split = sym (take-append-drop n cs) in
    record {
      scalars = scalars-back (take n cs) (drop n cs) (subst (λ (ds : List ℕ). all_scalars ds ≡ true) split e);
      few = omega (arith, both-bytes cs (take n cs) (drop n cs) split);
    }

line-feed : bytes (10 ∷ []) ≡ 1
unfolding encode
line-feed = refl

-- a line feed of one byte stands for a line end
fed-kept : (after : Bool) (cs : List ℕ) → all_scalars cs ≡ true → Kept cs (with_line_feeds after cs)
fed-kept after [] e = record { scalars = refl; few = omega arith }
fed-kept after (c ∷ cs) e = go (c == 13) (after && (c == 10)) (fed-kept (c == 13) cs (both _ _ e).1)
  where
    go : (a b : Bool) → Kept cs (with_line_feeds (c == 13) cs) → Kept (c ∷ cs) (cond a (10 ∷ []) (cond b [] (c ∷ [])) ++ with_line_feeds (c == 13) cs)
    go true b k = record {
      scalars = k.scalars;
      few = omega (arith, k.few, both-bytes (10 ∷ with_line_feeds (c == 13) cs) (10 ∷ []) (with_line_feeds (c == 13) cs) refl, line-feed, both-bytes (c ∷ cs) (c ∷ []) cs refl, some-bytes (c ∷ []) (omega arith));
    }
    go false true k = record { scalars = k.scalars; few = omega (arith, k.few, both-bytes (c ∷ cs) (c ∷ []) cs refl) }
    go false false k = record {
      scalars = and-true (both _ _ e).0 k.scalars;
      few = omega (arith, k.few, both-bytes (c ∷ with_line_feeds (c == 13) cs) (c ∷ []) (with_line_feeds (c == 13) cs) refl, both-bytes (c ∷ cs) (c ∷ []) cs refl);
    }

none-or-one : (a : Bool) (c : ℕ) → (cond a [] (c ∷ []) ≡ []) ⊎ (cond a [] (c ∷ []) ≡ c ∷ [])
none-or-one true c = inl refl
none-or-one false c = inr refl

kept-few : (place : LinePlace) (c : ℕ) → (kept_at place c ≡ []) ⊎ (kept_at place c ≡ c ∷ [])
kept-few Inside c = inr refl
kept-few Asterisks c = none-or-one (c == 42) c
kept-few Margin c = go (is_blank c)
  where
    go : (a : Bool) → (cond a [] (cond (c == 42) [] (c ∷ [])) ≡ []) ⊎ (cond a [] (cond (c == 42) [] (c ∷ [])) ≡ c ∷ [])
    go true = inl refl
    go false = none-or-one (c == 42) c

margin-kept : (place : LinePlace) (cs : List ℕ) → all_scalars cs ≡ true → Kept cs (unmargined place cs)
margin-kept place [] e = record { scalars = refl; few = omega arith }
margin-kept place (c ∷ cs) e = go (kept_at place c) (kept-few place c) (margin-kept (place_after place c) cs (both _ _ e).1)
  where
    go : (ds : List ℕ) → (ds ≡ []) ⊎ (ds ≡ c ∷ []) → Kept cs (unmargined (place_after place c) cs) → Kept (c ∷ cs) (ds ++ unmargined (place_after place c) cs)
    go ds (inl none) k =
        subst (λ (fs : List ℕ). Kept (c ∷ cs) (fs ++ unmargined (place_after place c) cs)) (sym none)
        (record { scalars = k.scalars; few = omega (arith, k.few, both-bytes (c ∷ cs) (c ∷ []) cs refl) })
    go ds (inr one) k =
        subst (λ (fs : List ℕ). Kept (c ∷ cs) (fs ++ unmargined (place_after place c) cs)) (sym one)
        (record {
          scalars = and-true (both _ _ e).0 k.scalars;
          few = omega (arith, k.few, both-bytes (c ∷ unmargined (place_after place c) cs) (c ∷ []) (unmargined (place_after place c) cs) refl, both-bytes (c ∷ cs) (c ∷ []) cs refl);
        })

-- ---- doc comments

doc-kept : (raw : List ℕ) → IsUtf8 raw → Kept (chars raw) (unmargined Inside (with_line_feeds false (unmarked (chars raw))))
doc-kept raw utf8 =
    let cs = chars raw in
    let behind = back-kept 3 cs (scalars-chars raw utf8) in
    let between = front-kept (length cs - 2 - 3) (drop 3 cs) behind.scalars in
    let fed = fed-kept false (unmarked cs) between.scalars in
    let last = margin-kept Inside (with_line_feeds false (unmarked cs)) fed.scalars in
    record { scalars = last.scalars; few = omega (arith, last.few, fed.few, between.few, behind.few) }

doc-name : (raw : List ℕ) → IsUtf8 raw → length raw ≤ 1_073_741_824 → is_name (doc_text raw) ≡ true
doc-name raw utf8 short =
    let k = doc-kept raw utf8 in
    and-true (is_utf8-from_IsUtf8 (doc_text raw) (unmargined Inside (with_line_feeds false (unmarked (chars raw))), (k.scalars, refl)))
    (lt-ltb _ _ (omega (arith, k.few, short, ap length (encodes-chars raw utf8))))

-- the doc comment before some symbols
pub doc-fits : (ts : List Symbol) → AreTexts ts → fits_if_some is_name (doc_of (first_doc ts)) ≡ true
doc-fits [] a = refl
doc-fits (s ∷ ss) a = go s.doc a.0.1 (omega (arith, a.1, sum_by-cons bytes_of s ss))
  where
    go : (doc : Option (List ℕ)) → IsDocText doc → option_map_or (λ d. length d) doc 0 ≤ 1_073_741_824 → fits_if_some is_name (doc_of doc) ≡ true
    go None utf8 short = refl
    go (Some d) utf8 short = doc-name d utf8 short
