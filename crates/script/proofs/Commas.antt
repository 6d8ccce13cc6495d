-- Lists with commas, one item more.
use Rattle.std.proofs.Common.{◌≡◌, ℕ, ◌+◌, ◌<◌, ◌≤◌, Bool, true, false, cond, List, [], ◌∷◌, ◌++◌, length, get_or, take, take_all, map, filter, refl, sym, ap, ◌∙◌, append_assoc, append-nil, arith, codes}
use Rattle.std.proofs.lemmas.List.{map-append}
use Rattle.std.proofs.lemmas.List.Elements.{filter_more}
use Rattle.std.proofs.lemmas.Grind.{flat_map-append, common_steps}
use Rattle.script.specs.Lists.{with_commas, behind_commas, comma_if, has_items, commas_or_dash}

pub with_commas_more : (items : List (List ℕ)) (item : List ℕ) →
    with_commas (items ++ item ∷ []) ≡ with_commas items ++ (comma_if (has_items items) ++ item)
with_commas_more [] item = grind (arith, common_steps)
with_commas_more (first ∷ items) item =
    let e : behind_commas (items ++ item ∷ []) ≡ behind_commas items ++ behind_commas (item ∷ []) = flat_map-append (λ next. codes "," ++ next) items (item ∷ []) in
    rw e (grind (arith, common_steps))

pub has_items_more : {X : Type 0} (items : List X) (item : X) → has_items (items ++ item ∷ []) ≡ true
has_items_more [] item = refl
has_items_more (first ∷ items) item = refl

pub no_items : {X : Type 0} (items : List X) → has_items items ≡ false → items ≡ []
no_items [] h = refl
no_items (first ∷ items) h = cc

-- the names of what passes, one item more
pub named_more : {X : Type 0} (p : X → Bool) (f : X → List ℕ) (xs : List X) (i : ℕ) (d : X) → i < length xs →
    map f (filter p (take (i + 1) xs)) ≡ map f (filter p (take i xs)) ++ map f (cond (p (get_or xs i d)) (get_or xs i d ∷ []) [])
named_more p f xs i d h = rw (filter_more p xs i d h) (map-append f _ _)

-- of the first i items of a list, those that pass are written behind what was there before
pub record IsListed {X : Type 0} (p : X → Bool) (f : X → List ℕ) (xs : List X) (i : ℕ) (start now : List ℕ) (any : Bool) : Type 0 where
  pub text : now ≡ start ++ with_commas (map f (filter p (take i xs)))
  pub some : any ≡ has_items (map f (filter p (take i xs)))

pub listed_none : {X : Type 0} (p : X → Bool) (f : X → List ℕ) (xs : List X) (start now : List ℕ) → now ≡ start → IsListed p f xs 0 start now false
listed_none p f xs start now e = record { text = e ∙ sym (append-nil start); some = refl }

pub listed_passed : {X : Type 0} (p : X → Bool) (f : X → List ℕ) (xs : List X) (i : ℕ) (d : X) (start old new : List ℕ) (any more : Bool) →
    IsListed p f xs i start old any → i < length xs → p (get_or xs i d) ≡ true →
    new ≡ old ++ (comma_if any ++ f (get_or xs i d)) → more ≡ true → IsListed p f xs (i + 1) start new more
listed_passed p f xs i d start old new any more so h t e m =
    let step : map f (filter p (take (i + 1) xs)) ≡ map f (filter p (take i xs)) ++ f (get_or xs i d) ∷ [] =
    named_more p f xs i d h ∙ rw t refl in
    record {
      text = rw (step, with_commas_more, ← so.some) (e ∙ ap (λ text. text ++ (comma_if any ++ f (get_or xs i d))) so.text ∙ append_assoc start _ _);
      some = rw (step, has_items_more) m;
    }

pub listed_failed : {X : Type 0} (p : X → Bool) (f : X → List ℕ) (xs : List X) (i : ℕ) (d : X) (start old new : List ℕ) (any more : Bool) →
    IsListed p f xs i start old any → i < length xs → p (get_or xs i d) ≡ false →
    new ≡ old → more ≡ any → IsListed p f xs (i + 1) start new more
listed_failed p f xs i d start old new any more so h t e m =
    let step : map f (filter p (take (i + 1) xs)) ≡ map f (filter p (take i xs)) =
    named_more p f xs i d h ∙ rw t (append-nil _) in
    record { text = rw step (e ∙ so.text); some = rw step (m ∙ so.some) }

pub listed_all : {X : Type 0} (p : X → Bool) (f : X → List ℕ) (xs : List X) (i : ℕ) (start now : List ℕ) (any : Bool) →
    IsListed p f xs i start now any → length xs ≤ i → any ≡ true → now ≡ start ++ commas_or_dash (map f (filter p xs))
listed_all p f xs i start now any so h t =
    let whole : take i xs ≡ xs = take_all i xs h in
    let some : has_items (map f (filter p xs)) ≡ true = rw whole at (sym so.some ∙ t) in
    let text : now ≡ start ++ with_commas (map f (filter p xs)) = rw whole at so.text in
    rw some text

pub listed_dash : {X : Type 0} (p : X → Bool) (f : X → List ℕ) (xs : List X) (i : ℕ) (start now last : List ℕ) (any : Bool) →
    IsListed p f xs i start now any → length xs ≤ i → any ≡ false → last ≡ now ++ codes "-" → last ≡ start ++ commas_or_dash (map f (filter p xs))
listed_dash p f xs i start now last any so h t e =
    let whole : take i xs ≡ xs = take_all i xs h in
    let some : has_items (map f (filter p xs)) ≡ false = rw whole at (sym so.some ∙ t) in
    let text : now ≡ start ++ with_commas (map f (filter p xs)) = rw whole at so.text in
    let none : map f (filter p xs) ≡ [] = no_items _ some in
    let start_is : now ≡ start = rw none at text ∙ append-nil start in
    rw some (e ∙ ap (λ front. front ++ codes "-") start_is)
