mod EscapeLaws
