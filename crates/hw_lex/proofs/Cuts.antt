-- Cutting a text: how a cut grows, what is known of each token, and that a text is cut in one way.
use Rattle.std.proofs.Common.{◌≡◌, ℕ, zero, suc, ◌+◌, ◌-◌, ◌≤◌, ◌<◌, List, [], ◌∷◌, ◌++◌, length, get_or, take, drop, ◌⊎◌, inl, inr, refl, sym, ap, subst, ◌∙◌, arith, append_assoc, length-drop}
use Rattle.std.proofs.lemmas.List.{length-append, take_all}
use Rattle.std.proofs.Math.Seq.{drop-append_seam, take-append_seam}
use Rattle.hw_lex.specs.declared.token.Dialect.{Dialect}
use Rattle.hw_lex.specs.declared.token.Kind.{Kind}
use Rattle.hw_lex.specs.declared.token.Token.{Token}
use Rattle.hw_lex.specs.Number.{Fits}
use Rattle.hw_lex.specs.Word.{IsWord, Stands}
use Rattle.hw_lex.specs.Gap.{blank, line, block, Gap, none, more}
use Rattle.hw_lex.specs.Cut.{place, Cuts, AreTokens, StartsNothing, FaultsAt, token_text}
use Rattle.hw_lex.proofs.Gaps.{Space-shorter, Gap-append, HasNoSpace, Gap-unique}
use Rattle.hw_lex.proofs.Words.{Stands-unique, Stands-no_space, Stands-longer}

-- ---- a cut that goes on

-- one more token
pub Cuts-token : (dialect : Dialect) (size : ℕ) (text : List ℕ) (tokens : List Token) (rest : List ℕ) (token : Token) (after : List ℕ) → Cuts dialect size text tokens rest
    → Stands dialect token.kind rest after → token.span.from ≡ place size rest → token.span.to ≡ place size after → Cuts dialect size text (tokens ++ token ∷ []) after
Cuts-token dialect size text [] rest token after g s from to = (after, record { at = rest; gap = g; stands = s; from = from; to = to }, none)
Cuts-token dialect size text (first ∷ tokens) rest token after (mid, t, c) s from to = (mid, t, Cuts-token dialect size mid tokens rest token after c s from to)

-- more of a gap
pub Cuts-gap : (dialect : Dialect) (size : ℕ) (text : List ℕ) (tokens : List Token) (mid rest : List ℕ) → Cuts dialect size text tokens mid → Gap mid rest → Cuts dialect size text tokens rest
Cuts-gap dialect size text [] mid rest c g = Gap-append text mid rest c g
Cuts-gap dialect size text (first ∷ tokens) mid rest (after, t, c) g = (after, t, Cuts-gap dialect size after tokens mid rest c g)

-- the token of this length at the rest, and the gap after it
pub Cuts-next : (dialect : Dialect) (text : List ℕ) (tokens : List Token) (rest next : List ℕ) (kind : Kind) (from to len : ℕ) → Cuts dialect (length text) text tokens rest
    → Stands dialect kind rest (drop len rest) → Gap (drop len rest) next → len ≤ length rest → length rest ≤ length text → from ≡ length text - length rest → to ≡ from + len
    → Cuts dialect (length text) text (tokens ++ record { kind = kind; span = record { from = from; to = to } } ∷ []) next
Cuts-next dialect text tokens rest next kind from to len c s g short within from_is to_is =
    let token : Token = record { kind = kind; span = record { from = from; to = to } } in
    let end : to ≡ length text - length (drop len rest) = omega (arith, length-drop len rest) in
    Cuts-gap dialect (length text) text (tokens ++ token ∷ []) (drop len rest) next (Cuts-token dialect (length text) text tokens rest token (drop len rest) c s from_is end) g

pub Gap-shorter : (text rest : List ℕ) → Gap text rest → (before : List ℕ) × (text ≡ before ++ rest)
Gap-shorter text rest none = ([], refl)
Gap-shorter text rest (more (blank {byte = byte} h) g) = let r = Gap-shorter _ rest g in (byte ∷ r.0, ap (λ (x : List ℕ). byte ∷ x) r.1)
Gap-shorter text rest (more (line inner h e) g) =
    let r = Gap-shorter _ rest g in
    (47 ∷ 47 ∷ (inner ++ r.0), ap (λ (x : List ℕ). 47 ∷ 47 ∷ (inner ++ x)) r.1 ∙ ap (λ (x : List ℕ). 47 ∷ 47 ∷ x) (sym (append_assoc inner r.0 rest)))
Gap-shorter text rest (more (block inner h) g) =
    let r = Gap-shorter _ rest g in
    (47 ∷ 42 ∷ (inner ++ 42 ∷ 47 ∷ r.0), ap (λ (x : List ℕ). 47 ∷ 42 ∷ (inner ++ 42 ∷ 47 ∷ x)) r.1 ∙ ap (λ (x : List ℕ). 47 ∷ 42 ∷ x) (sym (append_assoc inner (42 ∷ 47 ∷ r.0) rest)))

pub Gap-length : (text rest : List ℕ) → Gap text rest → length rest ≤ length text
Gap-length text rest g = let r = Gap-shorter text rest g in omega (arith, ap length r.1, length-append r.0 rest)

-- what is left of a text after some bytes, as a slice
pub rest_slice : (len : ℕ) (text : List ℕ) → take (length text - len) (drop len text) ≡ drop len text
rest_slice len text = take_all (length text - len) (drop len text) (omega (arith, length-drop len text))

-- ---- each token of a text

-- the token is these bytes of the source, which have the form of a token of its kind and whose numbers are not too large
pub record IsTokenOf (dialect : Dialect) (source : List ℕ) (token : Token) : Type 0 where
  pub order : token.span.from ≤ token.span.to
  pub within : token.span.to ≤ length source
  pub word : IsWord dialect token.kind (token_text source token)
  pub fits : Fits token.kind (token_text source token)

taken : (dialect : Dialect) (source before at after : List ℕ) (token : Token) → source ≡ before ++ at → Stands dialect token.kind at after → token.span.from ≡ place (length source) at → token.span.to ≡ place (length source) after → IsTokenOf dialect source token
taken dialect source before at after token e s from to =
    let size : length source ≡ length before + (length s.bytes + length after) = ap length e ∙ length-append before at ∙ ap (λ (x : ℕ). length before + x) (ap length s.parts ∙ length-append s.bytes after) in
    let size_at : length at ≡ length s.bytes + length after = ap length s.parts ∙ length-append s.bytes after in
    let start : token.span.from ≡ length before = omega arith in
    let count : token.span.to - token.span.from ≡ length s.bytes = omega arith in
    let text : token_text source token ≡ s.bytes =
    ap (λ (x : ℕ). take x (drop token.span.from source)) count
    ∙ ap (λ (x : ℕ). take (length s.bytes) (drop x source)) start
    ∙ ap (λ (x : List ℕ). take (length s.bytes) (drop (length before) x)) e
    ∙ ap (λ (x : List ℕ). take (length s.bytes) x) (drop-append_seam before at)
    ∙ ap (λ (x : List ℕ). take (length s.bytes) x) s.parts
    ∙ take-append_seam s.bytes after in
    record {
      order = omega arith;
      within = omega arith;
      word = subst (λ (x : List ℕ). IsWord dialect token.kind x) (sym text) s.word;
      fits = subst (λ (x : List ℕ). Fits token.kind x) (sym text) s.fits;
    }

token_from : (dialect : Dialect) (source before text : List ℕ) (tokens : List Token) (rest : List ℕ) → source ≡ before ++ text → Cuts dialect (length source) text tokens rest → (i : ℕ) (d : Token) → i < length tokens → IsTokenOf dialect source (get_or tokens i d)
token_from dialect source before text [] rest e c i d lt = absurd (omega arith)
token_from dialect source before text (token ∷ tokens) rest e (after, t, c) zero d lt =
    let gap = Gap-shorter text t.at t.gap in
    let whole : source ≡ (before ++ gap.0) ++ t.at = e ∙ ap (λ (x : List ℕ). before ++ x) gap.1 ∙ sym (append_assoc before gap.0 t.at) in
    taken dialect source (before ++ gap.0) t.at after token whole t.stands t.from t.to
token_from dialect source before text (token ∷ tokens) rest e (after, t, c) (suc i) d lt =
    let gap = Gap-shorter text t.at t.gap in
    let bytes = t.stands.bytes in
    let whole : source ≡ ((before ++ gap.0) ++ bytes) ++ after =
    e ∙ ap (λ (x : List ℕ). before ++ x) gap.1 ∙ sym (append_assoc before gap.0 t.at) ∙ ap (λ (x : List ℕ). (before ++ gap.0) ++ x) t.stands.parts ∙ sym (append_assoc (before ++ gap.0) bytes after) in
    token_from dialect source ((before ++ gap.0) ++ bytes) after tokens rest whole c i d (omega arith)

pub token_of : (dialect : Dialect) (source : List ℕ) (tokens : List Token) → AreTokens dialect source tokens → (i : ℕ) (d : Token) → i < length tokens → IsTokenOf dialect source (get_or tokens i d)
token_of dialect source tokens c i d lt = token_from dialect source [] source tokens [] refl c i d lt

-- ---- at most one cut

-- a cut ends here: at the text's end, or where nothing starts
abbrev pub IsEnd : Dialect → List ℕ → Type 0
IsEnd dialect rest = (rest ≡ []) ⊎ StartsNothing dialect rest

end_no_space : (dialect : Dialect) (rest : List ℕ) → IsEnd dialect rest → HasNoSpace rest
end_no_space dialect rest (inl e) = λ after s. absurd (omega (arith, Space-shorter rest after s, ap length e))
end_no_space dialect rest (inr n) = n.no_space

end_no_token : (dialect : Dialect) (rest : List ℕ) → IsEnd dialect rest → (kind : Kind) (after : List ℕ) → Stands dialect kind rest after → ⊥
end_no_token dialect rest (inl e) = λ kind after s. absurd (omega (arith, Stands-longer dialect kind rest after s, ap length e))
end_no_token dialect rest (inr n) = n.no_token

make_token : Kind → ℕ → ℕ → Token
make_token kind from to = record { kind = kind; span = record { from = from; to = to } }

same_token : (t u : Token) → t.kind ≡ u.kind → t.span.from ≡ u.span.from → t.span.to ≡ u.span.to → t ≡ u
unfolding make_token
same_token t u k f e =
    let a : make_token t.kind t.span.from t.span.to ≡ make_token u.kind t.span.from t.span.to = ap (λ (x : Kind). make_token x t.span.from t.span.to) k in
    let b : make_token u.kind t.span.from t.span.to ≡ make_token u.kind u.span.from t.span.to = ap (λ (x : ℕ). make_token u.kind x t.span.to) f in
    let c : make_token u.kind u.span.from t.span.to ≡ make_token u.kind u.span.from u.span.to = ap (λ (x : ℕ). make_token u.kind u.span.from x) e in
    a ∙ b ∙ c

-- two cuts that end have the same tokens and the same end
pub Cuts-unique : (dialect : Dialect) (size : ℕ) (text : List ℕ) (ts us : List Token) (a b : List ℕ) → Cuts dialect size text ts a → Cuts dialect size text us b → IsEnd dialect a → IsEnd dialect b → (ts ≡ us) × (a ≡ b)
Cuts-unique dialect size text [] [] a b c e p q = (refl, Gap-unique text a b c e (end_no_space dialect a p) (end_no_space dialect b q))
Cuts-unique dialect size text [] (u ∷ us) a b c (after, t, e) p q =
    let same = Gap-unique text a t.at c t.gap (end_no_space dialect a p) (Stands-no_space dialect u.kind t.at after t.stands) in
    absurd (end_no_token dialect a p u.kind after (subst (λ (x : List ℕ). Stands dialect u.kind x after) (sym same) t.stands))
Cuts-unique dialect size text (u ∷ us) [] a b (after, t, e) c p q =
    let same = Gap-unique text b t.at c t.gap (end_no_space dialect b q) (Stands-no_space dialect u.kind t.at after t.stands) in
    absurd (end_no_token dialect b q u.kind after (subst (λ (x : List ℕ). Stands dialect u.kind x after) (sym same) t.stands))
Cuts-unique dialect size text (t ∷ ts) (u ∷ us) a b (after, taken, c) (after', taken', e) p q =
    let at : taken.at ≡ taken'.at =
    Gap-unique text taken.at taken'.at taken.gap taken'.gap (Stands-no_space dialect t.kind taken.at after taken.stands) (Stands-no_space dialect u.kind taken'.at after' taken'.stands) in
    let same = Stands-unique dialect t.kind u.kind taken'.at after after' (subst (λ (x : List ℕ). Stands dialect t.kind x after) at taken.stands) taken'.stands in
    let token : t ≡ u = same_token t u same.0 (taken.from ∙ ap (place size) at ∙ sym taken'.from) (taken.to ∙ ap (place size) same.1 ∙ sym taken'.to) in
    let rest = Cuts-unique dialect size after' ts us a b (subst (λ (x : List ℕ). Cuts dialect size x ts a) same.1 c) e p q in
    (ap (λ (x : Token). x ∷ ts) token ∙ ap (λ (x : List Token). u ∷ x) rest.0, rest.1)

-- a text has its tokens in one way
pub tokens_unique : (dialect : Dialect) (text : List ℕ) (ts us : List Token) → AreTokens dialect text ts → AreTokens dialect text us → ts ≡ us
tokens_unique dialect text ts us c e = (Cuts-unique dialect (length text) text ts us [] [] c e (inl refl) (inl refl)).0

-- a text that has tokens has no fault
pub tokens-no_fault : (dialect : Dialect) (text : List ℕ) (tokens : List Token) (at : ℕ) → AreTokens dialect text tokens → FaultsAt dialect text at → ⊥
tokens-no_fault dialect text tokens at c f = f.more (sym (Cuts-unique dialect (length text) text tokens f.tokens [] f.rest c f.before (inl refl) (inr f.nothing)).1)

-- a text has its fault at one place
pub fault_unique : (dialect : Dialect) (text : List ℕ) (at other : ℕ) → FaultsAt dialect text at → FaultsAt dialect text other → at ≡ other
fault_unique dialect text at other f g =
    let same = (Cuts-unique dialect (length text) text f.tokens g.tokens f.rest g.rest f.before g.before (inr f.nothing) (inr g.nothing)).1 in
    f.place_is ∙ ap (place (length text)) same ∙ sym g.place_is
