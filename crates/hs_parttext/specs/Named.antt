-- Names at the front of texts.
use Rattle.std.specs.Prelude.{◌≡◌, ℕ, true, List, ◌++◌, IsUtf8}
use Rattle.hs_nametext.specs.Names.{name_text, is_name}

pub record IsName (name : List ℕ) : Type 0 where
  pub lawful : is_name name ≡ true
  pub utf8 : IsUtf8 name

-- the text is this name as it is written
pub record IsWholeName (text name : List ℕ) : Type 0 where
  pub named : IsName name
  pub written : text ≡ name_text name

-- the text is a name as it is written, and behind it what stands for a thing of this name
pub record IsNamed {X : Type 0} (Is : List ℕ → List ℕ → X → Type 0) (text : List ℕ) (p : List ℕ × X) : Type 0 where
  pub named : IsName p.0
  pub rest : List ℕ
  pub at : Is p.0 rest p.1
  pub written : text ≡ name_text p.0 ++ rest

-- the thing has this name, and the text stands for it
pub record IsOf {X : Type 0} (Is : List ℕ → List ℕ → X → Type 0) (name text : List ℕ) (p : List ℕ × X) : Type 0 where
  pub is : p.0 ≡ name
  pub at : Is name text p.1

-- the text is this front, and behind it what stands for a thing
pub record IsBehind {X : Type 0} (front : List ℕ) (Is : List ℕ → X → Type 0) (text : List ℕ) (x : X) : Type 0 where
  pub rest : List ℕ
  pub at : Is rest x
  pub written : text ≡ front ++ rest
