-- Forests: trees in a row, the last one nearest, so that 'the last child' is the outermost constructor.

infixl 30 ◌▹◌
-- no tree; a forest and a leaf behind it; a forest and behind it a container with what is inside
pub data Forest (Leaf Container : Type 0) : Type 0 where
  none : Forest Leaf Container
  ◌▹◌ : Forest Leaf Container → Leaf → Forest Leaf Container
  node : (before : Forest Leaf Container) → Container → (inside : Forest Leaf Container) → Forest Leaf Container
