-- The window that the code was asked for.
use Rattle.window.specs.Window.{Window, window}
use Rattle.window.specs.declared.Asked.{Asked}

abbrev pub window_asked : Asked → Window
window_asked a = window a.fewest a.most a.floor a.ceiling
